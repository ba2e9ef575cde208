-- `put_printout` meets its contract.
use Prim.Native.Nat.{◌≤◌}
use native.Mathlib.Omega.{arith}
use mathlib.Core.Path.{sym, ◌∙◌}
use lib.ListN.{length, get_or}
use Rattle.request.specs.Refusal as refusal
use Rattle.text.proofs.WrittenLaws.{mid_long}
use Rattle.report.specs.Lines.{board_line}
use Rattle.report.specs.Sizes.{most_board_bytes}
use Rattle.report.proofs.SizeLaws.{board_short, refused_short}
use Rattle.sheet.proofs.PuttingLaws.{printout_short, printout_bad, printed}
use Rattle.sheet.proofs.put_printout.Goals as goal
use Rattle.sheet.proofs.put_printout.Goals.{Else-input-lt-SHOP_BYTES}

-- ---- what cannot be opened

pub put_refused-requires : goal.put_refused-requires
put_refused-requires c =
    record { fits = rw c.from.ensures (omega (arith, c.requires.most_printed_in_bounds, refused_short refusal.cut_short (omega arith))) }

pub returns-then-input-lt-SHOP_BYTES : goal.returns-then-input-lt-SHOP_BYTES
returns-then-input-lt-SHOP_BYTES c =
    let w = rw c.from.ensures at c.put_refused.ensures in
    record {
      written = rw (printout_short _ c.if-input-lt-SHOP_BYTES.true) w;
      few = omega (arith, w.count, refused_short refusal.cut_short (omega arith));
    }

pub put_refused-requires-then-bad_shop : goal.put_refused-requires-then-bad_shop
put_refused-requires-then-bad_shop c =
    record { fits = rw c.from-then-bad_shop.ensures (omega (arith, c.requires.most_printed_in_bounds, refused_short refusal.bad_shop (omega arith))) }

pub returns-then-bad_shop : goal.returns-then-bad_shop
returns-then-bad_shop c =
    let w = rw c.from-then-bad_shop.ensures at c.put_refused-then-bad_shop.ensures in
    record {
      written = rw (printout_bad _ c.if-input-lt-SHOP_BYTES.false (sym c.bad_shop.ensures ∙ c.if-bad_shop.true)) w;
      few = omega (arith, w.count, refused_short refusal.bad_shop (omega arith));
    }

-- ---- a good shop: the board's line

board_fits : (c : Else-input-lt-SHOP_BYTES) → let bytes = c.args.input.now in
    length (board_line (get_or bytes 0 0) (get_or bytes 1 0)) ≤ most_board_bytes
board_fits c =
    board_short (get_or c.args.input.now 0 0) (get_or c.args.input.now 1 0)
    (omega (arith, c.type_inv.input 0)) (omega (arith, c.type_inv.input 1))

pub put_board-at-requires : goal.put_board-at-requires
put_board-at-requires c =
    record { fits = omega (arith, c.requires.most_printed_in_bounds, board_fits (goal.at.put_board-at-requires c).Else-input-lt-SHOP_BYTES) }

-- ---- the shift

pub put_shift-requires : goal.put_shift-requires
put_shift-requires c =
    let w = c.put_board-at.ensures in
    let fits = board_fits (goal.at.put_shift-requires c).Else-input-lt-SHOP_BYTES in
    record {
      inv = c.fresh-opened.ensures.0.invariant;
      shop_bytes_in_bounds = c.if-input-lt-SHOP_BYTES.false;
      input_len_bound = c.requires.input_len_bound;
      most_shift_bytes_in_bounds = omega (arith, c.requires.most_printed_in_bounds, w.count, mid_long c.put_board-at.result c.put_board-at.new.out, c.put_board-at.auto.out, fits);
    }

pub returns : goal.returns
returns c =
    let z = c.put_shift.ensures.0 in
    let w = c.put_board-at.ensures in
    let f = c.fresh-opened.ensures.0 in
    let long = c.if-input-lt-SHOP_BYTES.false in
    let good = sym c.bad_shop.ensures ∙ c.if-bad_shop.false in
    record {
      written = printed _ long good f.state w z.written;
      few = omega (arith, w.count, board_fits (goal.at.returns c).Else-input-lt-SHOP_BYTES, z.few);
    }
