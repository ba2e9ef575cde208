-- `put_number` meets its contract: the digits that it copies are the number's.
use Rattle.std.proofs.Common.{◌∙◌}
use Rattle.text.proofs.DecimalLaws.{digits_decimal}
use Rattle.text.proofs.put_number.Goals as goal

pub put_bytes-requires : goal.put_bytes-requires
put_bytes-requires c =
    let d = c.decimal-count.ensures in
    rw (d.digits ∙ digits_decimal c.args.n c.decimal-count.result d.len) c.requires

pub returns : goal.returns
returns c =
    let d = c.decimal-count.ensures in
    rw (d.digits ∙ digits_decimal c.args.n c.decimal-count.result d.len) at c.put_bytes.ensures
