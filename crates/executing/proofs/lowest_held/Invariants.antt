-- `lowest_held` meets its contract. The invariant: the first one held from k on is the first one held.
use Rattle.std.proofs.Common.{◌≡◌, suc, ◌-◌, ◌≤◌}
use Rattle.request.specs.Operations.{last_register}
use Rattle.effects.specs.Effect.{first_held}
use Rattle.executing.proofs.lowest_held.Given as goal

abbrev pub invariant-loop-k : goal.invariant-loop-k
invariant-loop-k l =
    (l.end ≤ suc last_register) × (first_held (l.end - l.k) l.k l.registers ≡ first_held (l.end - l.initial.k) l.initial.k l.registers)
