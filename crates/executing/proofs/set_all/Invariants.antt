-- `set_all` meets its contract. The invariant: setting what is left from `at` on gives all of them set.
use Rattle.std.proofs.Common.{◌≡◌, suc, ◌-◌, ◌≤◌, replicate}
use lib.Seq.{sets}
use Rattle.request.specs.Operations.{last_register}
use Rattle.executing.proofs.set_all.Given as goal

abbrev pub invariant-loop-at : goal.invariant-loop-at
invariant-loop-at l =
    (l.end ≤ suc last_register) × (sets l.registers l.at (replicate (l.end - l.at) l.v) ≡ sets l.initial.registers l.initial.at (replicate (l.end - l.initial.at) l.v))
