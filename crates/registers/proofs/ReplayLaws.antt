-- That the last operation of a replay is rolled back from what was saved before it.
use mathlib.Core.Path.{◌≡◌}
use mathlib.Core.List.{List, [], ◌∷◌, ◌++◌}
use Rattle.request.specs.declared.Operation.{Operation}
use Rattle.effects.specs.Replay.{replay}
use Rattle.registers.specs.Rollback.{saved_of, restored}
use Rattle.registers.proofs.RollbackLaws.{rolled_back_is}
use Rattle.effects.proofs.ReplayLaws.{replay_more}

pub replay_rolled_back : (os : List Operation) (o : Operation) → restored o (saved_of o (replay os)) (replay (os ++ o ∷ [])) ≡ replay os
replay_rolled_back os o = rw replay_more (rolled_back_is o (replay os))
