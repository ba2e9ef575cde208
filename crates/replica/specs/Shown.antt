-- What the showing calls promise, and what those show that are not document 01's.
use Rattle.std.specs.Prelude.{ℕ, ◌≡◌, List, length}
use Rattle.creek.specs.Calls.{Replica}
use Rattle.creek.specs.Execution.{registers}
use Rattle.creek.specs.Showing.{register_refusal, register_shown, place_refusal, place_shown}
use Rattle.replica.specs.State.{State}
use Rattle.replica.specs.declared.RegisterValue.{RegisterValue}
use Rattle.replica.specs.declared.PlacedRequest.{PlacedRequest}
use Rattle.replica.specs.declared.Panel.{Panel}
use Rattle.replica.specs.Memory.{memory}
use Rattle.replica.specs.internal.Model.{model, Inv}

-- the value of register k, or refusal 3 with 0
pub record RegisterShown (p : State) (k : ℕ) (r : RegisterValue) : Type 0 where
  pub refusal : r.refusal ≡ register_refusal k
  pub value : r.value ≡ register_shown (model p) k

-- the values of all registers
abbrev pub registers_shown : Replica → List ℕ
registers_shown r = registers r.book.execution

-- the length of the settled list
abbrev pub committed_shown : Replica → ℕ
committed_shown r = length r.book.plan.committed

-- the request at a place of the standing order, or refusal 9 with a request of zeros
pub record PlaceShown (p : State) (place : ℕ) (r : PlacedRequest) : Type 0 where
  pub refusal : r.refusal ≡ place_refusal (model p) place
  pub request : r.request ≡ place_shown (model p) place

-- n is what is shown of every panel that came from fresh and the calls and has those parts
pub record Shows (parts : Panel → Panel) (show : Replica → ℕ) (n : ℕ) : Type 0 where
  pub shown : (p : Panel) → Inv (memory (parts p)) → n ≡ show (model (memory (parts p)))

-- r is what is shown of register k of every such panel with the registers of p
pub record RegisterKept (p : Panel) (k : ℕ) (r : RegisterValue) : Type 0 where
  pub shown : (o : Panel) → Inv (memory (record o { registers = p.registers })) → RegisterShown (memory (record o { registers = p.registers })) k r

-- what the request at a place is read from
abbrev pub place_uses : Panel → Panel → Panel
place_uses p r = record r {
  ordered = p.ordered;
  clocks = p.clocks;
  askings = p.askings;
  contexts = p.contexts;
  order = p.order;
}

-- r is what is shown at that place of every such panel with what it is read from as p has it
pub record PlaceKept (p : Panel) (place : ℕ) (r : PlacedRequest) : Type 0 where
  pub shown : (o : Panel) → Inv (memory (place_uses p o)) → PlaceShown (memory (place_uses p o)) place r
