-- What is found in the bytes, place by place: one outcome and then those behind it.
use Prim.Native.Nat.{ℕ, zero, suc, ◌+◌, ◌-◌, ◌≤◌, ◌<◌}
use mathlib.Core.Path.{◌≡◌, refl, sym, ap, ◌∙◌}
use mathlib.Core.List.{List, [], ◌∷◌}
use native.Mathlib.Nat.{add-zero, sub-zero}
use native.Mathlib.Omega.{arith}
use lib.ListN.{length}
use Rattle.wire.specs.Layout.{least_message}
use Rattle.wire.specs.Reader.{Outcome, message, end, refused, read_at}
use Rattle.wire.proofs.RoundTrip.{taken_least, taken_inside}
use Rattle.runs.specs.Found.{passed, found, found_from}

-- how many bytes an outcome takes where so many are left: those of a message, or all of them
abbrev pub bytes_of : Outcome → ℕ → ℕ
bytes_of (message m n) left = n
bytes_of end left = left
bytes_of (refused w) left = left

-- n bytes, of those left, are taken: a whole message, or all of them
pub data Takes (left : ℕ) (n : ℕ) : Type 0 where
  whole : least_message ≤ n → n ≤ left → Takes left n
  all : n ≡ left → Takes left n

pub takes : (s : List ℕ) (at : ℕ) → at < length s → Takes (length s - at) (bytes_of (read_at s at) (length s - at))
takes s at h = go (read_at s at) refl
  where
    go : (o : Outcome) → read_at s at ≡ o → Takes (length s - at) (bytes_of o (length s - at))
    go (message m n) e = whole (taken_least s at m n e) (omega (arith, taken_inside s at m n e))
    go end e = all refl
    go (refused w) e = all refl

pub taken_within : (left n : ℕ) → Takes left n → 1 ≤ left → (1 ≤ n) × (n ≤ left)
taken_within left n (whole l m) h = (omega arith, omega arith)
taken_within left n (all e) h = (omega arith, omega arith)

-- passing over k bytes
skipped : (s : List ℕ) (at k left : ℕ) → found s at k left ≡ found s (at + k) 0 (left - k)
unfolding found
skipped s at zero left = simp (add-zero, sub-zero)
skipped s at (suc k) zero =
    let e : 0 - suc k ≡ 0 = omega arith in
    rw e
skipped s at (suc k) (suc left) =
    let e : at + suc k ≡ suc at + k = omega arith in
    let f : suc left - suc k ≡ left - k = omega arith in
    rw (e, f) (skipped s (suc at) k left)

passed_is : (o : Outcome) (left : ℕ) → passed o left ≡ bytes_of o (suc left) - 1
passed_is (message m n) left = refl
passed_is end left = omega arith
passed_is (refused w) left = omega arith

pub one_found : (s : List ℕ) (at : ℕ) → at < length s
    → found_from s at ≡ read_at s at ∷ found_from s (at + bytes_of (read_at s at) (length s - at))
unfolding found
one_found s at h =
    let n = bytes_of (read_at s at) (length s - at) in
    let w = taken_within (length s - at) n (takes s at h) (omega arith) in
    let e : length s - at ≡ suc (length s - suc at) = omega arith in
    let k : passed (read_at s at) (length s - suc at) ≡ n - 1 =
    passed_is (read_at s at) (length s - suc at) ∙ ap (λ (l : ℕ). bytes_of (read_at s at) l - 1) (sym e) in
    let f : suc at + (n - 1) ≡ at + n = omega arith in
    let g : length s - suc at - (n - 1) ≡ length s - (at + n) = omega arith in
    ap (λ (l : ℕ). found s at 0 l) e
    ∙ ap (λ (l : ℕ). read_at s at ∷ found s (suc at) l (length s - suc at)) k
    ∙ ap (λ (l : List Outcome). read_at s at ∷ l)
    (skipped s (suc at) (n - 1) (length s - suc at) ∙ ap (λ (l : ℕ). found s l 0 (length s - suc at - (n - 1))) f
    ∙ ap (λ (l : ℕ). found s (at + n) 0 l) g)

pub none_found : (s : List ℕ) (at : ℕ) → length s ≤ at → found_from s at ≡ []
unfolding found
none_found s at h =
    let e : length s - at ≡ 0 = omega arith in
    rw e
