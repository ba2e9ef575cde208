-- `write_printout` meets its contract: the page has room for the printout, and what is put there is all of it.
use native.Mathlib.Omega.{arith}
use mathlib.Core.Path.{sym}
use lib.Seq.{length-take-le}
use Rattle.printed.proofs.PrintedLaws.{returned-whole, returned_within}
use Rattle.printing.proofs.write_printout.Goals as goal

pub slice_bounds-out-end : goal.slice_bounds-out-end
slice_bounds-out-end c =
    let p = c.print-n in
    omega (arith, c.page-out.ensures, returned_within p.ensures p.auto.out, p.auto.out)

pub slice_bounds-write_text-end : goal.slice_bounds-write_text-end
slice_bounds-write_text-end c =
    let p = c.print-n in
    sym (length-take-le _ _ (omega (arith, c.page-out.ensures, returned_within p.ensures p.auto.out, p.auto.out)))

pub returns : goal.returns
returns c = returned-whole c.print-n.ensures (omega (arith, c.page-out.ensures))
