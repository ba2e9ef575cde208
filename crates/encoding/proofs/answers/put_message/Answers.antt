-- `answers::put_message` meets its contract: it copies what the writer left in a run of zeros.
use Rattle.encoding.proofs.MessageLaws.{message-written}
use Rattle.encoding.proofs.answers.put_message.Goals as goal

pub put_bytes-requires : goal.put_bytes-requires
put_bytes-requires c = rw (message-written _ _ _ c.write-written.ensures) c.requires

pub returns : goal.returns
returns c = rw (message-written _ _ _ c.write-written.ensures) at c.put_bytes.ensures
