-- A request that is held and awaits no reply gets no mark, and an accepted call leaves it so.
use Prim.Native.Nat.{◌≤◌}
use native.Mathlib.Omega.{arith}
use mathlib.Core.Path.{◌≡◌, refl, ap, ◌∙◌}
use mathlib.Core.Bool.{Bool, true, false}
use mathlib.Core.List.{List, [], ◌∷◌}
use lib.ListN.{length}
use Rattle.sets.specs.declared.Context.{Context}
use Rattle.numbers.specs.declared.Number.{Number}
use Rattle.request.specs.declared.Request.{Request}
use Rattle.numbers.specs.Numbers.{same_number, most_panels}
use Rattle.numbers.specs.internal.Slots.{GoodNumber}
use Rattle.sets.specs.Sets.{member}
use Rattle.request.specs.Refusal as refused
use Rattle.lists.proofs.BoolLaws.{neither}
use Rattle.numbers.proofs.NumberLaws.{good-number, same_number_sound}
use Rattle.sets.proofs.SetLaws.{member-join}
use Rattle.creek.specs.declared.Invocation.{Invocation}
use Rattle.lists.specs.Lists.{count}
use Rattle.creek.specs.Plan.{Plan, order, has_number, made}
use Rattle.creek.specs.Book.{Call, invoke, deliver, commit, undo, execute, refusal, accepted}
use Rattle.creek.specs.Replies.{no_mark, execution_mark, execution_reply}
use Rattle.creek.specs.Replies.{stable_reply_due, settlement_reply, undo_reply, accepted_answer}
use Rattle.creek.specs.Replies.{accepted_awaiting}
use Rattle.creek.specs.Calls.{Replica, accept}
use Rattle.creek.specs.internal.Sound.{Sound}
use Rattle.creek.specs.StableReply.{replied_to}
use Rattle.creek.proofs.AwaitingLaws.{awaiting_less}
use Rattle.creek.proofs.HeldLaws.{good-request, widened}
use Rattle.creek.proofs.AcceptanceLaws.{New, made_new, commits}
use Rattle.creek.proofs.EnteredLaws.{entered-count}
use Rattle.creek.proofs.CommittedLaws.{committing-count}

-- ---- a mark is given only to a request that awaits

marked_awaits : (a : Plan) (awaiting : Context) (x : Request) → member awaiting x.number ≡ false → execution_mark a awaiting x ≡ no_mark
unfolding execution_mark
marked_awaits a awaiting x e = rw e

-- n awaits no reply, and is held
pub record Silent (n : Number) (r : Replica) : Type 0 where
  pub unawaited : member r.awaiting n ≡ false
  pub there : 1 ≤ count (has_number n) (order r.book.plan)

pub accepted_silent : (n : Number) (r : Replica) (c : Call) → Silent n r → replied_to c (accepted_answer r.book r.awaiting c) ≡ n
    → (accepted_answer r.book r.awaiting c).mark ≡ no_mark
unfolding accepted_answer undo_reply execution_reply settlement_reply stable_reply_due
accepted_silent n r (invoke i) s e = refl
accepted_silent n r (deliver x) s e = refl
accepted_silent n r (commit m) s e =
    let none : member r.awaiting m ≡ false = ap (member r.awaiting) e ∙ s.unawaited in
    rw none
accepted_silent n r undo s e = go r.book.execution.rollback
  where
    go : (l : List Request) → (undo_reply l).mark ≡ no_mark
    go [] = refl
    go (x ∷ xs) = refl
accepted_silent n r execute s e = go r.book.execution.todo e
  where
    go : (l : List Request) → (execution_reply r.book r.awaiting l).number ≡ n → (execution_reply r.book r.awaiting l).mark ≡ no_mark
    go [] e = refl
    go (x ∷ xs) e = marked_awaits r.book.plan r.awaiting x (ap (member r.awaiting) e ∙ s.unawaited)

-- ---- a request that awaits no reply stays so

-- the number of a made request is good, and is not one that is held
module _ (r : Replica) (i : Invocation) (taken : refusal r.book (invoke i) ≡ refused.accepted) (sound : Sound r) where
  new : New r.book.plan (made r.book.plan i)
  unfolding refusal
  new = made_new r.book.plan sound.plan i taken

  pub good-next : GoodNumber most_panels (made r.book.plan i).number
  good-next = widened sound.plan.held.few_panels (good-number _ _ (good-request _ _ new.good).number)

  other-next : (n : Number) → 1 ≤ count (has_number n) (order r.book.plan) → same_number (made r.book.plan i).number n ≡ false
  other-next n there = go (same_number (made r.book.plan i).number n) refl
    where
      go : (b : Bool) → same_number (made r.book.plan i).number n ≡ b → b ≡ false
      go true e =
          let same = same_number_sound (made r.book.plan i).number n e in
          let none : count (has_number n) (order r.book.plan) ≡ 0 = rw same at new.absent in
          absurd (omega arith)
      go false e = refl

pub accept_silent : (n : Number) (r : Replica) (c : Call) → refusal r.book c ≡ refused.accepted → Sound r
    → length r.awaiting.words ≡ most_panels → Silent n r → Silent n (accept r c)
unfolding accept accepted accepted_awaiting refusal
accept_silent n r (invoke i) taken sound words s = record {
  unawaited =
      member-join r.awaiting (made r.book.plan i).number n words (good-next r i taken sound)
      ∙ neither (other-next r i taken sound n s.there) s.unawaited;
  there = omega (arith, s.there, entered-count r.book.plan (made r.book.plan i) (has_number n));
}
accept_silent n r (deliver x) taken sound words s = record {
  unawaited = s.unawaited;
  there = omega (arith, s.there, entered-count r.book.plan x (has_number n));
}
accept_silent n r (commit m) taken sound words s =
    let c = commits r.book.plan m taken in
    record {
      unawaited = awaiting_less r.awaiting m (accepted_answer r.book r.awaiting (commit m)).mark n s.unawaited;
      there =
          omega (
            arith,
            s.there,
            ap (λ (a : Plan). count (has_number n) (order a)) c.leads,
            committing-count r.book.plan c.request c.found sound.plan (has_number n),
          );
    }
accept_silent n r undo taken sound words s = record { unawaited = s.unawaited; there = s.there }
accept_silent n r execute taken sound words s =
    let given = accepted_answer r.book r.awaiting execute in
    record { unawaited = awaiting_less r.awaiting given.number given.mark n s.unawaited; there = s.there }
