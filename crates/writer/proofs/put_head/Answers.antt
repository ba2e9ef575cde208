-- `writer::put_head` meets its contract, field by field.
use Rattle.fields.proofs.WidthLaws.{field_then, field_last}
use Rattle.writer.proofs.put_head.Goals as goal

pub returns : goal.returns
returns c =
    rw (← c.from.ensures)
    (field_then _ _ _ _ _ _ _ _ c.put_integer.ensures (field_last _ _ _ _ _ (rw c.from-number.ensures at c.put_integer-2.ensures)))
