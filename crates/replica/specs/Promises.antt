-- What fresh and the calls promise of a panel, by the replica of `creek` that its memory stands for.
use Rattle.std.specs.Prelude.{ℕ, ◌≡◌, false, cond}
use Rattle.numbers.specs.Numbers.{panel_no}
use Rattle.creek.specs.Book.{Call, is_accepted}
use Rattle.creek.specs.Calls.{bad_shop, fresh, fresh_refusal, step, answer}
use Rattle.replica.specs.State.{State, first_memory, Opened, Called}
use Rattle.replica.specs.internal.Model.{book_of, model, Inv}

-- the memory that fresh of that shop leaves; a refused one leaves that of a one-panel shop, panel 0
abbrev pub fresh_memory : ℕ → ℕ → State
fresh_memory panels own = cond (bad_shop panels own) (first_memory 1 (panel_no 0)) (first_memory panels (panel_no own))

-- fresh of that shop: its refusal, every number of the memory, and that it is a shift's first moment as `creek` has it
pub record Fresh (panels own : ℕ) (r : Opened) : Type 0 where
  pub refusal : r.refusal ≡ fresh_refusal panels own
  pub memory : r.state ≡ fresh_memory panels own
  pub state : model r.state ≡ fresh panels own
  pub invariant : Inv r.state

-- a call on p, answered and carried out as `creek` says
pub record Kept (p : State) (c : Call) (r : Called) : Type 0 where
  -- the answer outright, every field, refused or not
  pub answer : r.answer ≡ answer (model p) c
  -- the state outright
  pub state : model r.state ≡ step (model p) c
  -- a refused call returns the very state that it was given
  pub unchanged : is_accepted (book_of p) c ≡ false → r.state ≡ p
  pub invariant : Inv r.state
