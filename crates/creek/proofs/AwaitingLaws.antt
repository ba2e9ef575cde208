-- Who awaits a reply after one about a number: as many words, nobody else affected, nobody new, and that number no more where the reply
-- ends the waiting.
use Prim.Native.Nat.{ℕ}
use mathlib.Core.Path.{◌≡◌, refl, sym, ap, ◌∙◌}
use mathlib.Core.Bool.{Bool, true, false, not, ◌&&◌, cond}
use lib.ListN.{length}
use Rattle.sets.specs.declared.Context.{Context}
use Rattle.numbers.specs.declared.Number.{Number}
use Rattle.numbers.specs.Numbers.{same_number}
use Rattle.sets.specs.Sets.{member, leave}
use Rattle.lists.proofs.BoolLaws.{both_true, first_false, second_false}
use Rattle.numbers.proofs.NumberLaws.{same_number_self}
use Rattle.sets.proofs.SetLaws.{member-leave, leave-length}
use Rattle.creek.specs.Replies.{ends_waiting, awaiting_after}

-- nobody but n leaves
pub leave_other : (s : Context) (n m : Number) → same_number n m ≡ false → member (leave s n) m ≡ member s m
leave_other s n m e = member-leave s n m ∙ ap (λ (b : Bool). member s m && not b) e ∙ kept (member s m)
  where
    kept : (b : Bool) → b && true ≡ b
    kept true = refl
    kept false = refl

module _ (awaiting : Context) (n : Number) (mark : ℕ) where
  -- what holds where n leaves and where nobody does holds after the reply
  after-reply : (P : Context → Type 0) → P (leave awaiting n) → P awaiting → P (awaiting_after awaiting n mark)
  after-reply P left stayed = go (ends_waiting mark)
    where
      go : (b : Bool) → P (cond b (leave awaiting n) awaiting)
      go true = left
      go false = stayed

  pub awaiting-length : length (awaiting_after awaiting n mark).words ≡ length awaiting.words
  awaiting-length = after-reply (λ (s : Context). length s.words ≡ length awaiting.words) (leave-length awaiting n) refl

  -- nobody else is affected
  pub awaiting_other : (m : Number) → same_number n m ≡ false → member (awaiting_after awaiting n mark) m ≡ member awaiting m
  awaiting_other m e = after-reply (λ (s : Context). member s m ≡ member awaiting m) (leave_other awaiting n m e) refl

  -- who did not await does not
  pub awaiting_less : (m : Number) → member awaiting m ≡ false → member (awaiting_after awaiting n mark) m ≡ false
  awaiting_less m e = after-reply (λ (s : Context). member s m ≡ false) (member-leave awaiting n m ∙ first_false _ e) e

  -- who awaits afterwards did before
  pub awaited-before : (m : Number) → member (awaiting_after awaiting n mark) m ≡ true → member awaiting m ≡ true
  awaited-before m =
      after-reply (λ (s : Context). member s m ≡ true → member awaiting m ≡ true)
      (λ e. (both_true (member awaiting m) _ (sym (member-leave awaiting n m) ∙ e)).0) (λ e. e)

  -- a weak or stable reply ends the waiting
  pub awaiting_ends : ends_waiting mark ≡ true → member (awaiting_after awaiting n mark) n ≡ false
  awaiting_ends e =
      ap (λ (b : Bool). member (cond b (leave awaiting n) awaiting) n) e
      ∙ member-leave awaiting n n ∙ second_false (member awaiting n) (ap not (same_number_self n))
