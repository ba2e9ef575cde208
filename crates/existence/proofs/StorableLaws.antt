-- What fresh and the calls that fit lead to in `creek` can be held by a memory (`Storable`).
use Prim.Native.Nat.{ℕ, zero, suc, ◌<◌}
use native.Mathlib.Omega.{arith}
use mathlib.Core.Path.{◌≡◌, refl, sym, ap, ◌∙◌}
use mathlib.Core.Bool.{Bool, true, false, ◌||◌, cond}
use lib.ListN.{length}
use Rattle.lists.specs.Lists.{count, is_nil}
use Rattle.lists.proofs.BoolLaws.{true_not_false, either}
use Rattle.lists.proofs.ListLaws.{one_false}
use Rattle.sets.specs.declared.Context.{Context}
use Rattle.numbers.specs.declared.Number.{Number}
use Rattle.request.specs.declared.Request.{Request}
use Rattle.numbers.specs.Numbers.{most_panels, same_number}
use Rattle.numbers.specs.internal.Slots.{GoodNumber}
use Rattle.numbers.proofs.NumberLaws.{same_number_sound}
use Rattle.sets.specs.Sets.{member, join}
use Rattle.sets.proofs.SetLaws.{member_empty, member-join}
use Rattle.request.specs.Refusal as refused
use Rattle.effects.specs.Effect.{range}
use Rattle.creek.specs.declared.Invocation.{Invocation}
use Rattle.creek.specs.Plan.{Plan, order, entered, later, last_clock, at_least, made, committing}
use Rattle.creek.specs.Book.{Call, invoke, deliver, commit, undo, execute, empty_book, refusal, accepted}
use Rattle.creek.specs.Replies.{accepted_answer, accepted_awaiting}
use Rattle.creek.specs.Calls.{Replica, bad_shop, replica_of, fresh, accept, step}
use Rattle.creek.specs.History.{due_call, after_due_steps}
use Rattle.creek.specs.internal.Sound.{Sound, SoundPlan}
use Rattle.creek.proofs.CallLaws.{by-outcome}
use Rattle.creek.proofs.ContextLaws.{without-length}
use Rattle.creek.proofs.AcceptanceLaws.{commits}
use Rattle.creek.proofs.EnteredLaws.{entered-count}
use Rattle.creek.proofs.CommittedLaws.{committing-count}
use Rattle.creek.proofs.AwaitingLaws.{awaited-before}
use Rattle.creek.proofs.SilentLaws.{good-next}
use Rattle.creek.proofs.SoundLaws.{accept_sound, fresh_sound}
use Rattle.creek.proofs.SoundAwaitingLaws.{accept_awaiting, fresh_awaiting}
use Rattle.existence.specs.Memory.{held_by}
use Rattle.existence.specs.Existence.{RequestFits, CallFits}
use Rattle.existence.proofs.WidthLaws.{is_wide, not_wide}
use Rattle.existence.proofs.MemoryLaws.{Storable}

-- ---- requests

-- a request that is made has a word for each panel in its context
made_fits : (a : Plan) → SoundPlan a → (i : Invocation) → i.asked.amount < range → RequestFits (made a i)
unfolding made at_least
made_fits a sound i amount = record {
  words =
      either (λ (s : Context). length s.words ≡ most_panels) i.asked.strong
      (λ strong. without-length a.known (later a (at_least (last_clock a) i)) ∙ sound.held.known_words) (λ weak. refl);
  amount = amount;
}

-- one more request that fits
entered_fit : (a : Plan) (x : Request) → RequestFits x → count is_wide (order a) ≡ 0 → count is_wide (order (entered a x)) ≡ 0
entered_fit a x fit all = omega (arith, entered-count a x is_wide, one_false (not_wide x fit))

accept_fit : (r : Replica) (c : Call) → refusal r.book c ≡ refused.accepted → Sound r → CallFits c
    → count is_wide (held_by r) ≡ 0 → count is_wide (held_by (accept r c)) ≡ 0
unfolding accept accepted refusal
accept_fit r (invoke i) taken sound fit all =
    entered_fit r.book.plan (made r.book.plan i) (made_fits r.book.plan sound.plan i fit) all
accept_fit r (deliver x) taken sound fit all = entered_fit r.book.plan x fit all
accept_fit r (commit n) taken sound fit all =
    let c = commits r.book.plan n taken in
    rw c.leads (committing-count r.book.plan c.request c.found sound.plan is_wide ∙ all)
accept_fit r undo taken sound fit all = all
accept_fit r execute taken sound fit all = all

-- ---- who awaits a reply

abbrev OnlyOwn : ℕ → Context → Type 0
OnlyOwn own awaiting = (n : Number) → member awaiting n ≡ true → n.panel.0 ≡ own

-- one more own number awaits
joined_own : (own : ℕ) (awaiting : Context) (m : Number) → GoodNumber most_panels m → m.panel.0 ≡ own
    → length awaiting.words ≡ most_panels → OnlyOwn own awaiting → OnlyOwn own (join awaiting m)
joined_own own awaiting m good is words all n waits = go (same_number m n) refl (sym (member-join awaiting m n words good) ∙ waits)
  where
    go : (b : Bool) → same_number m n ≡ b → b || member awaiting n ≡ true → n.panel.0 ≡ own
    go true e either = ap (λ (k : Number). k.panel.0) (sym (same_number_sound m n e)) ∙ is
    go false e either = all n either

made_own : (a : Plan) (i : Invocation) → (made a i).number.panel.0 ≡ a.own
unfolding made
made_own a i = refl

-- the own panel stays
accept_panel : (r : Replica) (c : Call) → refusal r.book c ≡ refused.accepted → (accept r c).book.plan.own ≡ r.book.plan.own
unfolding accept accepted refusal entered committing
accept_panel r (invoke i) taken = refl
accept_panel r (deliver x) taken = refl
accept_panel r (commit n) taken = ap (λ (a : Plan). a.own) (commits r.book.plan n taken).leads
accept_panel r undo taken = refl
accept_panel r execute taken = refl

accept_own : (r : Replica) (c : Call) → refusal r.book c ≡ refused.accepted → Sound r → length r.awaiting.words ≡ most_panels
    → OnlyOwn r.book.plan.own r.awaiting → OnlyOwn r.book.plan.own (accept r c).awaiting
unfolding accept accepted_awaiting
accept_own r (invoke i) taken sound words all =
    joined_own r.book.plan.own r.awaiting (made r.book.plan i).number (good-next r i taken sound)
    (made_own r.book.plan i) words all
accept_own r (deliver x) taken sound words all = all
accept_own r (commit m) taken sound words all =
    λ n waits. all n (awaited-before r.awaiting m (accepted_answer r.book r.awaiting (commit m)).mark n waits)
accept_own r undo taken sound words all = all
accept_own r execute taken sound words all =
    let given = accepted_answer r.book r.awaiting execute in
    λ n waits. all n (awaited-before r.awaiting given.number given.mark n waits)

-- ---- the calls

accept_storable : (r : Replica) (c : Call) → refusal r.book c ≡ refused.accepted → CallFits c → Storable r → Storable (accept r c)
accept_storable r c taken fit s = record {
  sound = accept_sound r c taken s.sound;
  fit = accept_fit r c taken s.sound fit s.fit;
  awaiting = accept_awaiting r c taken s.sound s.awaiting;
  awaiting_own = rw (accept_panel r c taken) (accept_own r c taken s.sound s.awaiting.words s.awaiting_own);
}

pub step_storable : (r : Replica) (c : Call) → CallFits c → Storable r → Storable (step r c)
step_storable r c fit s = by-outcome (λ v w q. Storable q) r c (λ taken. accept_storable r c taken fit s) s

-- a due step fits
due_fits : (b : Bool) → CallFits (cond b execute undo)
due_fits true = tt
due_fits false = tt

pub due_storable : (k : ℕ) (r : Replica) → Storable r → Storable (after_due_steps k r)
unfolding after_due_steps
due_storable zero r s = s
due_storable (suc k) r s =
    due_storable k (step r (due_call r.book)) (step_storable r (due_call r.book) (due_fits (is_nil r.book.execution.rollback)) s)

-- ---- fresh

nothing-held : (panels own : ℕ) → count is_wide (held_by (fresh panels own)) ≡ 0
unfolding fresh
nothing-held panels own =
    either (λ (r : Replica). count is_wide (held_by r) ≡ 0) (bad_shop panels own) {x = replica_of (empty_book 1 0)} (λ bad. refl) (λ good. refl)

nobody-waits : (panels own : ℕ) (n : Number) → member (fresh panels own).awaiting n ≡ false
unfolding fresh
nobody-waits panels own n =
    either (λ (r : Replica). member r.awaiting n ≡ false) (bad_shop panels own) {x = replica_of (empty_book 1 0)}
    (λ bad. member_empty n) (λ good. member_empty n)

pub fresh_storable : (panels own : ℕ) → Storable (fresh panels own)
fresh_storable panels own = record {
  sound = fresh_sound panels own;
  fit = nothing-held panels own;
  awaiting = fresh_awaiting panels own;
  awaiting_own = λ n waits. true_not_false waits (nobody-waits panels own n);
}
