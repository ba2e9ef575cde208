-- `writing::put_body` meets its contract, field by field.
use Rattle.fields.proofs.WidthLaws.{field_then, field_last}
use Rattle.fields.proofs.writing.put_body.Goals as goal

pub returns : goal.returns
returns c =
    field_then _ _ _ _ _ _ _ _ c.put_integer.ensures
    (field_then _ _ _ _ _ _ _ _ c.put_integer-2.ensures
    (field_then _ _ _ _ _ _ _ _ c.put_integer-3.ensures
    (field_then _ _ _ _ _ _ _ _ c.put_integer-4.ensures
    (field_then _ _ _ _ _ _ _ _ c.put_integer-5.ensures
    (field_last _ _ _ _ _ c.put_integer-6.ensures)))))
