-- `print_run` meets its contract: the answers of the calls that were run lie inside the page.
use native.Mathlib.Omega.{arith}
use mathlib.Core.Path.{sym}
use lib.Seq.{length-take-le}
use Rattle.driver.proofs.RunLaws.{ran_inside}
use Rattle.cases.proofs.answered.print_run.Goals as goal

pub overflow_mul-answers : goal.overflow_mul-answers
overflow_mul-answers c = let inside = ran_inside c.run_list-ran.ensures in omega (arith, inside)

pub slice_bounds-answers-end : goal.slice_bounds-answers-end
slice_bounds-answers-end c = let inside = ran_inside c.run_list-ran.ensures in omega (arith, inside)

pub slice_bounds-print_answers-end : goal.slice_bounds-print_answers-end
slice_bounds-print_answers-end c =
    let inside = ran_inside c.run_list-ran.ensures in
    sym (length-take-le _ _ (omega (arith, inside)))
