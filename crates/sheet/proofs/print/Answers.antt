-- `print` meets its contract.
use native.Mathlib.Omega.{arith}
use mathlib.Core.Path.{◌≡◌, sym}
use lib.ListN.{length, take}
use lib.Seq.{take_all, length-take-le}
use Rattle.printed.specs.Printout.{most_input}
use Rattle.printed.proofs.PrintedLaws.{printed_none, printed-whole}
use Rattle.sheet.proofs.print.Goals as goal
use Rattle.sheet.proofs.print.Goals.{Else-input-le-MOST_INPUT}

-- an input that is too long is cut to as much as is read
cut : (c : Else-input-le-MOST_INPUT) → let input = c.args.input.now in length (take most_input input) ≡ most_input
cut c = length-take-le most_input c.args.input.now (omega (arith, c.if-input-le-MOST_INPUT.false))

pub returns-then-out-lt-MOST_PRINTED : goal.returns-then-out-lt-MOST_PRINTED
returns-then-out-lt-MOST_PRINTED c = printed_none _ _ (omega arith)

pub returns-then-input-le-MOST_INPUT : goal.returns-then-input-le-MOST_INPUT
returns-then-input-le-MOST_INPUT c =
    let put = c.put_printout.ensures in
    let input = c.args.input.now in
    let all = take_all most_input input c.if-input-le-MOST_INPUT.true in
    printed-whole input _ _ _ (omega arith) (rw all put.written)

pub slice_bounds-put_printout-end : goal.slice_bounds-put_printout-end
slice_bounds-put_printout-end c = sym (cut (goal.at.slice_bounds-put_printout-end c).Else-input-le-MOST_INPUT)

pub put_printout-requires-2 : goal.put_printout-requires-2
put_printout-requires-2 c = record {
  input_len_bound = omega (arith, cut (goal.at.put_printout-requires-2 c).Else-input-le-MOST_INPUT);
  most_printed_in_bounds = omega arith;
}

pub returns : goal.returns
returns c =
    let put = c.put_printout-2.ensures in
    printed-whole _ _ _ _ (omega arith) put.written
