-- The loop over the calls: what is left to do from here is the whole run.
use Prim.Native.Nat.{ℕ, suc, ◌+◌, ◌-◌, ◌*◌, ◌≤◌, ◌<◌}
use mathlib.Core.Path.{◌≡◌, refl, sym, ap, ◌∙◌}
use mathlib.Core.List.{List, ◌∷◌, ◌++◌}
use native.Mathlib.Nat.{sub-zero}
use native.Mathlib.Omega.{arith}
use lib.ListN.{length}
use borrow.Rule.Slice.PartMut.{mid_of, put_mid}
use Rattle.text.specs.Written.{Room}
use Rattle.text.proofs.WrittenLaws.{Left, left_start, left_fits, left_put, left_end, written_sets}
use Rattle.creek.specs.Book.{invoke, deliver, commit, undo, execute}
use Rattle.creek.specs.Calls.{Replica}
use Rattle.replica.specs.State.{State}
use Rattle.replica.specs.declared.Panel.{Panel}
use Rattle.replica.specs.Memory.{SameSpare}
use Rattle.replica.specs.internal.Model.{Inv, model}
use Rattle.encoding.specs.Encoding.{calls_at, call_size, Entry, one, all_due, entry_at, entries_from, call_count, entries_of}
use Rattle.encoding.specs.Encoding.{after, answer_to, answer_bytes, answer_size, answers_bytes}
use Rattle.encoding.specs.internal.Running.{run_entries, EntryPut, entry_changes, RanAll}
use Rattle.encoding.proofs.CallLaws.{put_as}
use Rattle.encoding.proofs.SizeLaws.{length-answer}
use Rattle.encoding.proofs.Expanded.{run_expanded}

-- the first of the calls that are left, and those behind it
one-call : (s : List ℕ) (at count i : ℕ) → i < count
    → entries_from s at (count - i) ≡ entry_at s at ∷ entries_from s (at + call_size) (count - (i + 1))
unfolding entries_from
one-call s at count i h =
    let e : count - i ≡ suc (count - (i + 1)) = omega arith in
    rw e

-- before call i, which stands at the place, the calls before it have led from p to q, and their answers from out to out₁
pub record Running (p : State) (s : List ℕ) (count : ℕ) (out out₁ : List ℕ) (q : State) (at behind i : ℕ) : Type 0 where
  pub few : i ≤ count
  pub place : at ≡ calls_at + call_size * i
  pub invariant : Inv q
  pub state : run_entries (model q) (entries_from s at (count - i)) ≡ run_entries (model p) (entries_of s)
  pub answers : Left out (answers_bytes (model p) (entries_of s)) out₁ behind (answers_bytes (model q) (entries_from s at (count - i)))

pub run_start : (p : State) (s : List ℕ) (count : ℕ) (out : List ℕ) → Inv p → count ≡ call_count s
    → Running p s count out out p calls_at 0 0
unfolding entries_of
run_start p s count out inv e = record {
  few = omega arith;
  place = omega arith;
  invariant = inv;
  state = rw (sub-zero, e);
  answers = rw (sub-zero, e) (left_start out (answers_bytes (model p) (entries_of s)));
}

-- a call lies within the bytes
pub call_within : (s : List ℕ) (count at i : ℕ) → count ≡ call_count s → at ≡ calls_at + call_size * i → i < count
    → at + call_size ≤ length s
unfolding call_count
call_within s count at i e f h = omega arith

-- the calls behind call i
abbrev behind_call : List ℕ → ℕ → ℕ → ℕ → List Entry
behind_call s at count i = entries_from s (at + call_size) (count - (i + 1))

-- where call i leads to r, its answer is the next of the answers that are left
next_left : (p : State) (s : List ℕ) (count : ℕ) (out out₁ : List ℕ) (q : State) (at behind i : ℕ) → i < count
    → Running p s count out out₁ q at behind i → (r : Replica) → r ≡ after (model q) (entry_at s at)
    → Left out (answers_bytes (model p) (entries_of s)) out₁ behind
    (answer_bytes (answer_to (model q) (entry_at s at)) ++ answers_bytes r (behind_call s at count i))
unfolding answers_bytes
next_left p s count out out₁ q at behind i h now r leads = rw leads (rw (one-call s at count i h) at now.answers)

next-run : (p : State) (s : List ℕ) (count : ℕ) (out out₁ : List ℕ) (q : State) (at behind i : ℕ) → i < count
    → Running p s count out out₁ q at behind i → (r : Replica) → r ≡ after (model q) (entry_at s at)
    → run_entries r (behind_call s at count i) ≡ run_entries (model p) (entries_of s)
unfolding run_entries
next-run p s count out out₁ q at behind i h now r leads = rw leads (rw (one-call s at count i h) at now.state)

module _ {p : State} {s : List ℕ} {count : ℕ} {out out₁ : List ℕ} {q : State} {at behind i : ℕ}
    (now : Running p s count out out₁ q at behind i) (h : i < count) where
  -- there is room for the answer of call i
  pub run_room : Room out (answers_bytes (model p) (entries_of s)) → behind + answer_size ≤ length out₁
  run_room r =
      let a = answer_to (model q) (entry_at s at) in
      let next = next_left p s count out out₁ q at behind i h now (after (model q) (entry_at s at)) refl in
      omega (arith, left_fits (answer_bytes a) _ r next, length-answer a)

  -- call i, carried out and answered under any name of its entry
  pub run_step : {x : Entry} {new : List ℕ} {q₁ : State} {n : ℕ} → behind + answer_size ≤ length out₁ → entry_at s at ≡ x
      → EntryPut q x (mid_of behind (length out₁ - behind) out₁) q₁ new n
      → Running p s count out (put_mid behind (length out₁ - behind) out₁ new) q₁ (at + call_size) (behind + n) (i + 1)
  run_step {new = new} {q₁ = q₁} {n = n} fits e named =
      let put : EntryPut q (entry_at s at) (mid_of behind (length out₁ - behind) out₁) q₁ new n = put_as {p = q} {q = q₁} e named in
      let long = length-answer (answer_to (model q) (entry_at s at)) in
      record {
        few = omega arith;
        place = omega (arith, now.place);
        invariant = put.invariant;
        state = next-run p s count out out₁ q at behind i h now (model q₁) put.state;
        answers = left_put _ (omega (arith, fits, long)) put.answer (next_left p s count out out₁ q at behind i h now (model q₁) put.state);
      }

pub run_end : (p : State) (s : List ℕ) (count : ℕ) (out out₁ : List ℕ) (q : State) (at behind i : ℕ)
    → Room out (answers_bytes (model p) (entries_of s)) → count ≤ i → Running p s count out out₁ q at behind i → RanAll p s out out₁ q
unfolding run_entries entries_from answers_bytes
run_end p s count out out₁ q at behind i room h now =
    let none : count - i ≡ 0 = omega arith in
    let last : model q ≡ run_entries (model p) (entries_of s) = rw none at now.state in
    record {
      state = last;
      calls = last ∙ sym (run_expanded (model p) (entries_of s));
      answers = written_sets room (left_end (rw none at now.answers));
      invariant = now.invariant;
    }

-- a call of a list leaves the spare bytes
pub spare_stays : (x : Entry) (p q : Panel) → q ≡ entry_changes x p q → SameSpare p q
spare_stays (one (invoke i)) p q others = ap (λ (r : Panel). r.spare) others
spare_stays (one (deliver x)) p q others = ap (λ (r : Panel). r.spare) others
spare_stays (one (commit n)) p q others = ap (λ (r : Panel). r.spare) others
spare_stays (one undo) p q others = ap (λ (r : Panel). r.spare) others
spare_stays (one execute) p q others = ap (λ (r : Panel). r.spare) others
spare_stays all_due p q others = ap (λ (r : Panel). r.spare) others
