-- When a call keeps its promise: a refused one that returns its state, and an accepted one that leads to the replica of `creek`.
use Prim.Native.Nat.{ℕ}
use mathlib.Core.Path.{◌≡◌, refl, sym, ◌∙◌}
use mathlib.Core.Bool.{true, false}
use borrow.Author.Tests.{eq-eqb, ne_eqb}
use Rattle.lists.proofs.BoolLaws.{true_not_false}
use Rattle.request.specs.Refusal as refused
use Rattle.creek.specs.declared.Answer.{Answer}
use Rattle.creek.specs.Book.{Call, refusal, is_accepted}
use Rattle.creek.specs.Replies.{refused_with, named_by_refusal, accepted_answer, answer_of}
use Rattle.creek.specs.Calls.{accept, step}
use Rattle.creek.specs.internal.Sound.{Sound}
use Rattle.creek.proofs.SoundLaws.{step_sound}
use Rattle.replica.specs.State.{State}
use Rattle.replica.specs.Promises.{Kept}
use Rattle.replica.specs.internal.Model.{book_of, model, Inv}

-- a refused call that answers with its refusal and returns the state as it was
pub kept-refused : (p : State) (c : Call) (word : ℕ) (a : Answer) → Inv p → refusal (book_of p) c ≡ word → (word ≡ refused.accepted → ⊥)
    → a ≡ refused_with word (named_by_refusal (book_of p) c) → Kept p c (record { answer = a; state = p })
unfolding model answer_of step
kept-refused p c word a inv e refuses f =
    let not_taken : is_accepted (book_of p) c ≡ false = ne_eqb (refusal (book_of p) c) refused.accepted (λ z. refuses (sym e ∙ z)) in
    record {
      answer = rw (not_taken, e) f;
      state = rw not_taken;
      unchanged = λ h. refl;
      invariant = inv;
    }

module _ (p q : State) (c : Call) (taken : refusal (book_of p) c ≡ refused.accepted) where
  accepts : is_accepted (book_of p) c ≡ true
  accepts = eq-eqb (refusal (book_of p) c) refused.accepted taken

  pub step_taken : model q ≡ accept (model p) c → model q ≡ step (model p) c
  unfolding model step
  step_taken e = rw accepts e

  sound_again : Inv p → model q ≡ accept (model p) c → Sound (model q)
  sound_again inv e = rw (step_taken e) (step_sound (model p) c inv.sound)

  -- an accepted call that leads from p to q
  pub kept-accepted : (a : Answer) → Inv p → a ≡ accepted_answer (book_of p) p.awaiting c → model q ≡ accept (model p) c
      → (Sound (model q) → Inv q) → Kept p c (record { answer = a; state = q })
  unfolding model answer_of
  kept-accepted a inv f e again =
      record {
        answer = rw accepts f;
        state = step_taken e;
        unchanged = λ h. true_not_false accepts h;
        invariant = again (sound_again inv e);
      }
