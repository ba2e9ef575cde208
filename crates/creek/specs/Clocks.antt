-- Clocks that are put back (document 02, request (b)): the reading that a made request takes, that it goes through, that own requests
-- stay in event order, and that refusal 5 is never met. Each is proved in `proofs/Clocks`; that the panel's own answers never have 5 is
-- in `history`, and that reader and writer never answer it in `wire`.
use Rattle.std.specs.Prelude.{ℕ, ◌≤◌, ◌<◌, ◌≡◌, true, false}
use Rattle.std.proofs.Math.Option.{some}
use Rattle.request.specs.declared.Request.{Request}
use Rattle.numbers.specs.Numbers.{most_events}
use Rattle.request.specs.Asked.{bad_asked}
use Rattle.request.specs.Order.{before}
use Rattle.request.specs.Refusal as refused
use Rattle.request.specs.Refusal.{NotClockBack}
use Rattle.creek.specs.declared.Invocation.{Invocation}
use Rattle.creek.specs.Plan.{Plan, held, is_of, last_event, last_clock, made}
use Rattle.creek.specs.Book.{Call, invoke, Book, refusal}
use Rattle.creek.specs.Calls.{Replica, fresh_refusal, answer}
use Rattle.creek.specs.Showing.{register_refusal, place_refusal}

-- ---- the request that is made

-- the reading that it takes: its own, or that of the last own request where that is higher
pub record ClockTaken (a : Plan) (i : Invocation) : Type 0 where
  pub as_asked : last_clock a ≤ i.clock.0 → (made a i).clock ≡ i.clock
  pub raised : i.clock.0 < last_clock a → (made a i).clock.0 ≡ last_clock a

-- with a good operation and fewer than 64 own requests held it goes through, whatever its clock
pub record GoesThrough (b : Book) (i : Invocation) : Type 0 where
  pub accepted : bad_asked i.asked ≡ false → last_event b.plan < most_events → refusal b (invoke i) ≡ refused.accepted

-- ---- the own requests that are held

-- x is held, and is one of the own panel's
pub record OwnHeld (a : Plan) (x : Request) : Type 0 where
  pub here : held a x.number ≡ some x
  pub own : is_of a.own x ≡ true

-- of two own requests held the one with the lower event comes before the other in clock order
pub record InEventOrder (a : Plan) : Type 0 where
  pub ordered : (x y : Request) → OwnHeld a x → OwnHeld a y → x.number.event.0 < y.number.event.0 → before x y ≡ true

-- what holds of their clock readings, in every plan that fresh and the calls lead to
pub record SoundClocks (a : Plan) : Type 0 where
  -- no own request has a reading above that of the last one
  pub none_above : (x : Request) → OwnHeld a x → x.clock.0 ≤ last_clock a
  pub in_order : InEventOrder a

-- ---- refusal 5

-- no book and no replica, sound or not, answers a call with 5, nor does fresh or a showing call
pub record NeverClockBack : Type 0 where
  pub calls : (b : Book) (c : Call) → NotClockBack (refusal b c)
  pub answers : (r : Replica) (c : Call) → NotClockBack (answer r c).refusal
  pub fresh : (panels own : ℕ) → NotClockBack (fresh_refusal panels own)
  pub register : (k : ℕ) → NotClockBack (register_refusal k)
  pub place : (r : Replica) (place : ℕ) → NotClockBack (place_refusal r place)
