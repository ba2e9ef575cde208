-- A run, from the shop that is opened and the loop over the calls.
use Prim.Native.Nat.{ℕ, ◌/◌, ◌≤◌, ◌*◌}
use mathlib.Core.Path.{◌≡◌, refl, sym, ap, ◌∙◌}
use mathlib.Core.Bool.{true, false}
use mathlib.Core.List.{List}
use native.Mathlib.Omega.{arith}
use lib.ListN.{length}
use lib.Seq.{sets}
use borrow.Author.Tests.{ltb-false}
use Rattle.lists.proofs.BoolLaws.{true_not_false}
use Rattle.text.specs.Written.{Room}
use Rattle.request.specs.Refusal.{no_room}
use Rattle.creek.specs.Calls.{Replica}
use Rattle.replica.specs.State.{State, Opened}
use Rattle.replica.specs.Promises.{Fresh}
use Rattle.encoding.specs.Encoding.{panels_of, own_of, calls_at, call_count, entries_of, answer_size, answers_bytes}
use Rattle.encoding.specs.Encoding.{tight, entries_run}
use Rattle.encoding.specs.internal.Running.{RanAll}
use Rattle.driver.specs.declared.ListResult.{ListResult}
use Rattle.driver.specs.Lists.{Answered}
use Rattle.encoding.proofs.SizeLaws.{length_calls, answers_room, run_inside}

module _ (s out : List ℕ) where
  -- without room
  pub ran-nothing : tight s out ≡ true → Answered s out out (record { ran = 0; refusal = no_room })
  unfolding entries_run answers_bytes
  ran-nothing e = record { refusal = rw e refl; ran = rw e refl; answers = rw e refl; same_bytes = λ _. refl }

  module _ (e : tight s out ≡ false) where
    -- with room there is room for the answers of any panel
    pub room_for : (r : Replica) → Room out (answers_bytes r (entries_of s))
    room_for r = answers_room r s out (ltb-false (length out / answer_size) (call_count s) e)

    -- with room, where the shop that the bytes ask for was opened as o
    pub ran_all : (o : Opened) → Fresh (panels_of s) (own_of s) o → (count : ℕ) → count ≡ call_count s → (out' : List ℕ) (q : State)
        → RanAll o.state s out out' q → Answered s out out' (record { ran = count; refusal = o.refusal })
    unfolding entries_run entries_of
    ran_all o opened count counted out' q all = record {
      refusal = rw e opened.refusal;
      ran = rw e (counted ∙ sym (length_calls s calls_at (call_count s)));
      answers = rw e (all.answers ∙ ap (λ (r : Replica). sets out 0 (answers_bytes r (entries_of s))) opened.state);
      same_bytes = λ tight. true_not_false tight e;
    }

-- the answers of a run lie in the lent bytes
pub ran_inside : {s out out' : List ℕ} {r : ListResult} → Answered s out out' r → answer_size * r.ran ≤ length out
ran_inside {s} {out} h = omega (arith, h.ran, run_inside s out)
