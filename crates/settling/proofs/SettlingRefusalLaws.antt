-- Why a settlement is refused, by what the state keeps, and what acceptance says.
use Prim.Native.Nat.{ℕ}
use native.Mathlib.Omega.{arith}
use mathlib.Core.Path.{◌≡◌, refl, sym, ap, ◌∙◌}
use mathlib.Core.Bool.{Bool, true, false, not}
use mathlib.Core.Option.{some}
use lib.Dec.{eqb}
use borrow.Author.Tests.{not-false}
use Rattle.std.specs.Prelude.{if◌then◌else◌, Some, None}
use Rattle.std.proofs.lemmas.Option.{same_Some, none-some}
use Rattle.numbers.specs.declared.Number.{Number}
use Rattle.numbers.specs.Numbers.{no_number, bad_number}
use Rattle.numbers.specs.internal.Slots.{slot_of}
use Rattle.sets.specs.Sets.{member, subset, lowest_lacking}
use Rattle.request.specs.Refusal as refused
use Rattle.request.specs.declared.refusal.Refusal.{Refusal}
use Rattle.request.specs.declared.refusal.Refusal.TheVariants as Word
use Rattle.lists.specs.Lists.{find}
use Rattle.creek.specs.declared.Answer.{Answer}
use Rattle.creek.specs.Plan.{met, has_number, held, is_committed, found_refusal, commit_refusal}
use Rattle.creek.specs.Book.{commit, refusal}
use Rattle.creek.specs.Replies.{refused_with, missing, named_by_refusal}
use Rattle.creek.proofs.AcceptanceLaws.{passed}
use Rattle.replica.specs.State.{State}
use Rattle.store.specs.Requests.{request_at}
use Rattle.replica.specs.Promises.{Kept}
use Rattle.replica.specs.internal.Model.{plan_of, book_of, Inv}
use Rattle.settling.specs.Settling.{early_refusal, missing_number}
use Rattle.replica.proofs.KeptLaws.{kept-refused}
use Rattle.settling.proofs.SettlingHeldLaws.{kept_at, strong_at, context_at, sound_plan, good_widened, HeldAt, held-request}
use Rattle.replica.proofs.RequestLaws.{held_none}
use Rattle.settling.proofs.SettlingHeldLaws.{found_tentative, committed_is_known}

module _ (p : State) (n : Number) where
  -- the call, once its first test is passed
  not_bad : bad_number p.panels n ≡ false → refusal (book_of p) (commit n) ≡ found_refusal (plan_of p) n (held (plan_of p) n)
  unfolding refusal commit_refusal book_of plan_of
  not_bad e = rw e

  -- a refusal names no number, but for 12
  names_none : (word : ℕ) → refusal (book_of p) (commit n) ≡ word → eqb word refused.waits ≡ false
      → named_by_refusal (book_of p) (commit n) ≡ no_number
  unfolding named_by_refusal
  names_none word e other = rw (e, other)

  bad-refused : bad_number p.panels n ≡ true → refusal (book_of p) (commit n) ≡ refused.bad_number
  unfolding refusal commit_refusal book_of plan_of
  bad-refused e = rw e

  absent-refused : Inv p → bad_number p.panels n ≡ false → member p.held n ≡ false
      → refusal (book_of p) (commit n) ≡ refused.not_here
  absent-refused inv e f = not_bad e ∙ ap (found_refusal (plan_of p) n) (held_none _ inv n (good_widened inv e) f)

-- ---- without a context

-- what is known of n and its slot s behind those tests
pub record Judged (p : State) (n : Number) (s : ℕ) : Type 0 where
  pub held_at : HeldAt p n s
  pub strong : strong_at p s ≡ true
  pub new : member p.known n ≡ false

-- the tests of a held request, in order
abbrev word_of : Bool → Bool → Bool → ℕ
word_of strong known whole =
    met (not strong) refused.weak (met known refused.settled_already (met (not whole) refused.waits refused.accepted))

-- the request at slot s is to be settled under the number n: it is strong, it is not known, and its context is
pub record Settles (p : State) (n : Number) (s : ℕ) : Type 0 where
  pub strong : strong_at p s ≡ true
  pub new : member p.known n ≡ false
  pub whole : subset (context_at p s) p.known ≡ true

module _ {p : State} {n : Number} {s : ℕ} (inv : Inv p) (h : HeldAt p n s) where
  committed_known : strong_at p s ≡ true → is_committed (plan_of p) n ≡ member p.known n
  unfolding request_at plan_of
  committed_known e = committed_is_known (plan_of p) (sound_plan inv) n (kept_at p s) (held-request inv h) e

  -- its whole context is known
  abbrev whole : Bool
  whole = subset (context_at p s) p.known

  refusal-held : refusal (book_of p) (commit n) ≡ word_of (strong_at p s) (member p.known n) (subset (context_at p s) p.known)
  unfolding request_at plan_of
  refusal-held = not_bad p n h.good ∙ ap (found_refusal (plan_of p) n) (held-request inv h) ∙ go (strong_at p s) refl
    where
      go : (b : Bool) → strong_at p s ≡ b
          → word_of b (is_committed (plan_of p) n) whole ≡ word_of b (member p.known n) whole
      go true e = ap (λ (t : Bool). word_of true t whole) (committed_known e)
      go false e = refl

  -- the number that refusal 12 names
  names-missing : refusal (book_of p) (commit n) ≡ refused.waits
      → named_by_refusal (book_of p) (commit n) ≡ lowest_lacking (context_at p s) p.known
  unfolding named_by_refusal request_at book_of plan_of
  names-missing e = rw e (ap (missing (plan_of p)) (held-request inv h))

  module _ (strong : strong_at p s ≡ true) (new : member p.known n ≡ false) where
    pub kept_waiting : {m : Number} → missing_number (context_at p s) p.known ≡ Some m
        → Kept p (commit n) (record { answer = refused_with refused.waits m; state = p })
    unfolding missing_number
    kept_waiting {m} e = go whole (refusal-held ∙ rw (strong, new)) e
      where
        go : (b : Bool) → refusal (book_of p) (commit n) ≡ word_of true false b
            → (if b then None else Some (lowest_lacking (context_at p s) p.known)) ≡ Some m
            → Kept p (commit n) (record { answer = refused_with refused.waits m; state = p })
        go false r f =
            kept-refused p (commit n) refused.waits _ inv r (λ z. omega arith)
            (ap (refused_with refused.waits) (sym (names-missing r ∙ same_Some _ _ f)))
        go true r f = absurd (none-some _ f)

    pub settles : missing_number (context_at p s) p.known ≡ None → Settles p n s
    unfolding missing_number
    settles e = go whole refl e
      where
        go : (b : Bool) → whole ≡ b → (if b then None else Some (lowest_lacking (context_at p s) p.known)) ≡ None → Settles p n s
        go false w f = absurd (none-some _ (sym f))
        go true w f = record { strong = strong; new = new; whole = w }

  -- ---- accepted

  module _ (t : Settles p n s) where
    pub settlement-accepted : refusal (book_of p) (commit n) ≡ refused.accepted
    settlement-accepted = refusal-held ∙ rw (t.strong, t.new, t.whole)

    -- it is among the tentative requests
    pub tentative-found : find (has_number n) (plan_of p).tentative ≡ some (kept_at p s)
    unfolding request_at plan_of
    tentative-found =
        found_tentative (plan_of p) (sound_plan inv) n (kept_at p s) (held-request inv h) t.strong (committed_known t.strong ∙ t.new)

-- ---- the early refusals

-- a refusal is not accepted
pub refuses : (w : Refusal) → refused.number_of w ≡ refused.accepted → ⊥
refuses Word.BadShop e = omega arith
refuses Word.BadNumber e = omega arith
refuses Word.BadOperation e = omega arith
refuses Word.OwnEcho e = omega arith
refuses Word.ShiftFull e = omega arith
refuses Word.HeldAlready e = omega arith
refuses Word.NumberClash e = omega arith
refuses Word.NotHere e = omega arith
refuses Word.Weak e = omega arith
refuses Word.SettledAlready e = omega arith
refuses Word.Waits e = omega arith
refuses Word.NothingToUndo e = omega arith
refuses Word.UndoFirst e = omega arith
refuses Word.NothingToDo e = omega arith
refuses Word.CutShort e = omega arith
refuses Word.BadLength e = omega arith
refuses Word.UnknownKind e = omega arith
refuses Word.SpareSet e = omega arith
refuses Word.NoRoom e = omega arith
refuses Word.BadContext e = omega arith

module _ {p : State} {n : Number} (inv : Inv p) where
  pub kept_early : {word : ℕ} {a : Answer} → word ≡ early_refusal p.panels p.held p.known p.askings n
      → (word ≡ refused.accepted → ⊥) → a ≡ refused_with word no_number → Kept p (commit n) (record { answer = a; state = p })
  unfolding early_refusal
  kept_early {word} {a} e out answered =
      go (bad_number p.panels n) (member p.held n) (strong_at p (slot_of n)) (member p.known n) refl refl refl refl e
    where
      kept : refusal (book_of p) (commit n) ≡ word → eqb word refused.waits ≡ false → Kept p (commit n) (record { answer = a; state = p })
      kept r other = kept-refused p (commit n) word a inv r out (answered ∙ ap (refused_with word) (sym (names_none p n word r other)))

      -- of a held request
      held_word : bad_number p.panels n ≡ false → member p.held n ≡ true
          → refusal (book_of p) (commit n)
          ≡ word_of (strong_at p (slot_of n)) (member p.known n) (subset (context_at p (slot_of n)) p.known)
      held_word b h = refusal-held inv (record { slot = refl; good = b; here = h })

      go : (bad here strong known : Bool) → bad_number p.panels n ≡ bad → member p.held n ≡ here → strong_at p (slot_of n) ≡ strong
          → member p.known n ≡ known
          → word ≡ met bad refused.bad_number (met (not here) refused.not_here
          (met (not strong) refused.weak (met known refused.settled_already refused.accepted)))
          → Kept p (commit n) (record { answer = a; state = p })
      go true here strong known b h s k w = kept (bad-refused p n b ∙ sym w) (ap (λ (k : ℕ). eqb k refused.waits) w)
      go false false strong known b h s k w = kept (absent-refused p n inv b h ∙ sym w) (ap (λ (k : ℕ). eqb k refused.waits) w)
      go false true false known b h s k w = kept ((rw s at (held_word b h)) ∙ sym w) (ap (λ (k : ℕ). eqb k refused.waits) w)
      go false true true true b h s k w = kept ((rw (s, k) at (held_word b h)) ∙ sym w) (ap (λ (k : ℕ). eqb k refused.waits) w)
      go false true true false b h s k w = absurd (out w)

  pub early-passed : {word s : ℕ} → word ≡ early_refusal p.panels p.held p.known p.askings n → word ≡ refused.accepted
      → s ≡ slot_of n → Judged p n s
  unfolding early_refusal
  early-passed e z at =
      let good = passed (bad_number p.panels n) refused.bad_number _ tt (sym e ∙ z) in
      let here = passed (not (member p.held n)) refused.not_here _ tt good.1 in
      let strong = passed (not (strong_at p (slot_of n))) refused.weak _ tt here.1 in
      let new = passed (member p.known n) refused.settled_already refused.accepted tt strong.1 in
      record {
        held_at = record { slot = at; good = good.0; here = not-false _ here.0 };
        strong = ap (strong_at p) at ∙ not-false _ strong.0;
        new = new.0;
      }
