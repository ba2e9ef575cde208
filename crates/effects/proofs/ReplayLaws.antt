-- Laws of replays: of no operation, of two runs one after the other, of one operation more; and the number of registers. Of the last one
-- rolled back it is in `registers`.
use Prim.Native.Nat.{ℕ, suc}
use mathlib.Core.Path.{◌≡◌, refl, ◌∙◌}
use mathlib.Core.List.{List, [], ◌∷◌, ◌++◌}
use lib.ListN.{length, length-replicate}
use Rattle.request.specs.declared.Operation.{Operation}
use Rattle.request.specs.Operations.{last_register}
use Rattle.effects.specs.Effect.{exec}
use Rattle.effects.specs.Replay.{zero_board, replay_on, replay}
use Rattle.effects.proofs.RegisterLaws.{exec-length}

replay_on-append : (b : List ℕ) (os ps : List Operation) → replay_on b (os ++ ps) ≡ replay_on (replay_on b os) ps
unfolding replay_on
replay_on-append b [] ps = refl
replay_on-append b (o ∷ os) ps = replay_on-append (exec o b) os ps

replay_on-length : (b : List ℕ) (os : List Operation) → length (replay_on b os) ≡ length b
unfolding replay_on
replay_on-length b [] = refl
replay_on-length b (o ∷ os) = replay_on-length (exec o b) os ∙ exec-length o b

pub replay-nothing : replay [] ≡ zero_board
unfolding replay replay_on
replay-nothing = refl

pub replay-append : (os ps : List Operation) → replay (os ++ ps) ≡ replay_on (replay os) ps
unfolding replay
replay-append os ps = replay_on-append zero_board os ps

pub replay_more : (os : List Operation) (o : Operation) → replay (os ++ o ∷ []) ≡ exec o (replay os)
unfolding replay_on
replay_more os o = replay-append os (o ∷ [])

pub replay-length : (os : List Operation) → length (replay os) ≡ suc last_register
unfolding replay
replay-length os = replay_on-length zero_board os ∙ length-replicate {A = ℕ} (suc last_register) 0
