-- What taking a request off the board of a panel and putting one on it ask and do.
use Rattle.std.specs.Prelude.{ℕ, ◌<◌, ◌≡◌, List, get_or, set, ltb}
use Rattle.numbers.specs.internal.Slots.{number_of}
use Rattle.sets.specs.Sets.{set_of, member}
use Rattle.request.specs.Asked.{operation_of}
use Rattle.request.specs.Refusal as refused
use Rattle.request.specs.declared.Asked.{Asked}
use Rattle.effects.specs.Effect.{Executed}
use Rattle.registers.specs.Rollback.{saved_of, saved_in, restored}
use Rattle.ordering.specs.Slots.{most_slots, IsSlot}
use Rattle.store.specs.Requests.{asked_in}
use Rattle.creek.specs.declared.Reply.{Reply}
use Rattle.creek.specs.Replies.{awaiting_after, mark_of}
use Rattle.replica.specs.declared.Panel.{Panel}

-- at a place on the board stands a slot
pub record TopAsks (stack : List ℕ) (top : ℕ) : Type 0 where
  pub place : top < most_slots
  pub slot : IsSlot (get_or stack top 0)

-- the registers of p with the request at the place `top` on the board rolled back from what was saved there
abbrev pub rolled_back : Panel → ℕ → List ℕ
rolled_back p top =
    restored (operation_of (asked_in (get_or p.askings (get_or p.stack top 0) 0))) (saved_in (get_or p.saved top 0)) p.registers

-- the request at the place `top` on the board, of slot s, was rolled back, by which p became q
pub record TakenOff (p : Panel) (top : ℕ) (q : Panel) (s : ℕ) : Type 0 where
  pub slot : s ≡ get_or p.stack top 0
  pub panel : q ≡ record p { registers = rolled_back p top }

-- at a place of the order stands a slot
pub record NextAsks (order : List ℕ) (at : ℕ) : Type 0 where
  pub place : at < most_slots
  pub slot : IsSlot (get_or order at 0)

-- what the request at place `at` of the order asks for
abbrev pub asked_next : Panel → ℕ → Asked
asked_next p at = asked_in (get_or p.askings (get_or p.order at 0) 0)

-- the request at place `at` of the order of p was executed and put on the board there, by which p became q; its reply is r
pub record ExecutedAt (p : Panel) (at : ℕ) (q : Panel) (r : Reply) : Type 0 where
  pub word : ℕ
  pub restores : saved_in word ≡ saved_of (operation_of (asked_next p at)) p.registers
  pub done : Executed (operation_of (asked_next p at)) p.registers q.registers r.response
  pub panel : q ≡ record p {
    awaiting = q.awaiting;
    stack = set p.stack at (get_or p.order at 0);
    registers = q.registers;
    saved = set p.saved at word;
    responses = set p.responses at r.response;
  }
  pub number : r.number ≡ number_of (get_or p.order at 0)
  pub refusal : r.refusal ≡ refused.accepted
  pub mark : r.mark ≡ mark_of (member (set_of p.awaiting) (number_of (get_or p.order at 0))) (asked_next p at).strong (ltb at p.committed)
  pub waits : set_of q.awaiting ≡ awaiting_after (set_of p.awaiting) r.number r.mark
