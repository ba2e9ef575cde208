-- `put_shift` meets its contract.
use native.Mathlib.Omega.{arith}
use mathlib.Core.Path.{sym, ◌∙◌}
use Rattle.text.proofs.WrittenLaws.{mid_long}
use Rattle.sheet.proofs.PuttingLaws.{shift_put}
use Rattle.sheet.proofs.put_shift.Goals as goal

pub put_messages-at-requires : goal.put_messages-at-requires
put_messages-at-requires c = record {
  inv = c.requires.inv;
  shop_bytes_in_bounds = c.requires.shop_bytes_in_bounds;
  input_len_bound = c.requires.input_len_bound;
  most_message_bytes_in_bounds = omega (arith, c.requires.most_shift_bytes_in_bounds);
}

pub put_closing-requires : goal.put_closing-requires
put_closing-requires c =
    let m = c.put_messages-at.ensures.0 in
    record {
      inv = m.invariant;
      most_registers_bytes_in_bounds = omega (arith, c.requires.most_shift_bytes_in_bounds, m.few, m.lines.count, mid_long c.put_messages-at.result c.put_messages-at.new.out, c.put_messages-at.auto.out);
    }

pub returns : goal.returns
returns c =
    let z = c.put_closing.ensures in
    let m = c.put_messages-at.ensures.0 in
    (record { written = shift_put m z; few = omega (arith, m.few, z.few) }, c.put_messages-at.ensures.1)
