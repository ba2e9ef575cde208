-- The replica after the entries is the replica after the calls that they stand for.
use mathlib.Core.Path.{◌≡◌, refl, ◌∙◌}
use mathlib.Core.List.{List, [], ◌∷◌}
use Rattle.creek.specs.Calls.{Replica}
use Rattle.creek.specs.History.{run}
use Rattle.creek.proofs.CallLaws.{run-append}
use Rattle.creek.proofs.DueLaws.{run_due_is}
use Rattle.creek.specs.Showing.{owed_shown}
use Rattle.encoding.specs.Encoding.{Entry, one, all_due, after}
use Rattle.encoding.specs.internal.Running.{run_entries, calls_in, calls_of}

run_entry : (r : Replica) (x : Entry) → run r (calls_in r x) ≡ after r x
unfolding calls_in after run
run_entry r (one c) = refl
run_entry r all_due = run_due_is (owed_shown r) r

pub run_expanded : (r : Replica) (xs : List Entry) → run r (calls_of r xs) ≡ run_entries r xs
unfolding calls_of run_entries run
run_expanded r [] = refl
run_expanded r (x ∷ xs) =
    run-append r (calls_in r x) (calls_of (after r x) xs) ∙ rw (run_entry r x) (run_expanded (after r x) xs)
