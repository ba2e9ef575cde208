-- Clocks that are put back (document 02, request (b)), of the panel: what holds after any list of calls on it from what fresh returned.
-- Every list of calls keeps it: `panel_clocks` in `proofs/Clocks`.
use Rattle.std.specs.Prelude.{ℕ, ◌≡◌, Bool, List, eqb}
use Rattle.lists.specs.Lists.{count}
use Rattle.request.specs.Refusal as refused
use Rattle.creek.specs.declared.Answer.{Answer}
use Rattle.creek.specs.Clocks.{InEventOrder}
use Rattle.creek.specs.History.{refusals_in}
use Rattle.replica.specs.State.{State}
use Rattle.replica.specs.internal.Model.{model}

-- the number is 5, clock back
abbrev pub is_clock_back : ℕ → Bool
is_clock_back w = eqb w refused.clock_back

-- of the answers to the calls and of the panel q to which they led; all due steps at once stand for the answers of the single steps
pub record PanelClocks (answers : List Answer) (q : State) : Type 0 where
  -- no call is answered with 5
  pub never_back : count is_clock_back (refusals_in answers) ≡ 0
  -- of two own requests that the panel holds the one with the lower event comes before the other in clock order
  pub in_order : InEventOrder (model q).book.plan
