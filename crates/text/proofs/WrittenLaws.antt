-- Laws of texts at the front of bytes, in this order: a part that goes on to the end; one text behind another; a loop that puts a text
-- piece by piece (`Left`).
use Prim.Native.Nat.{ℕ, suc, ◌+◌, ◌-◌, ◌≤◌}
use native.Mathlib.Nat.{zero-add}
use native.Mathlib.Omega.{arith}
use mathlib.Core.Path.{◌≡◌, refl, sym, ap, ap₂, ◌∙◌}
use mathlib.Core.List.{List, [], ◌∷◌, ◌++◌, append_assoc, append-nil}
use lib.ListN.{length, take, drop, take-append-drop, length-append, length-drop}
use lib.Seq.{sets, sets-eq, take_all, take_at, drop_at, drop-drop, length-take-le}
use borrow.Rule.Slice.PartMut.{mid_of, put_mid, same_len_mid}
use Rattle.std.proofs.lemmas.List.{drop_all}
use Rattle.text.specs.Written.{Room, Written}

-- ---- a part that goes on to the end

-- it is what stands from its start on
mid_end : (at : ℕ) (xs : List ℕ) → mid_of at (length xs - at) xs ≡ drop at xs
mid_end at xs = take_all (length xs - at) (drop at xs) (omega (arith, length-drop at xs))

-- it has what is left of the bytes
pub mid_long : (at : ℕ) (xs : List ℕ) → length (mid_of at (length xs - at) xs) ≡ length xs - at
mid_long at xs = ap length (mid_end at xs) ∙ length-drop at xs

-- and what is put there stands to the end
put_end : (at : ℕ) (xs ys : List ℕ) → put_mid at (length xs - at) xs ys ≡ take at xs ++ ys
put_end at xs ys =
    let none = drop_all (length xs - at) (drop at xs) (omega (arith, length-drop at xs)) in
    ap (λ r. take at xs ++ r) (ap (λ r. ys ++ r) none ∙ append-nil ys)

-- there is room for what fits behind the place
pub room_at : (at : ℕ) (out₁ s : List ℕ) → at + length s ≤ length out₁ → Room (mid_of at (length out₁ - at) out₁) s
room_at at out₁ s fits = rw (mid_end at out₁) (record { fits = omega (arith, length-drop at out₁, fits) })

-- putting a text keeps the count of bytes
pub same_size : {out text out' : List ℕ} {n : ℕ} → Room out text → Written out text out' n → length out' ≡ length out
same_size {out} {text} r w = ap length w.bytes ∙ omega (arith, length-append text (drop (length text) out), length-drop (length text) out, r.fits)

-- what stands there then, as stores from the front on
pub written_sets : {out text out' : List ℕ} {n : ℕ} → Room out text → Written out text out' n → out' ≡ sets out 0 text
written_sets {out} {text} r w = w.bytes ∙ sym (rw (zero-add (length text)) at (sets-eq text out 0 (omega (arith, r.fits))))

-- and what a text that was put from a place on makes of the whole
pub written_at : (out : List ℕ) (at : ℕ) {text new : List ℕ} {n : ℕ} → at + length text ≤ length out
    → Written (mid_of at (length out - at) out) text new n → put_mid at (length out - at) out new ≡ sets out at text
written_at out at {text} {new} fits w =
    let rest = w.bytes ∙ ap (λ r. text ++ drop (length text) r) (mid_end at out) ∙ ap (λ r. text ++ r) (drop-drop (length text) at out) in
    put_end at out new ∙ ap (λ r. take at out ++ r) rest ∙ sym (append_assoc (take at out) text _) ∙ sym (sets-eq text out at fits)

-- ---- one text behind another

-- no text
pub nothing : (out : List ℕ) → Written out [] out 0
nothing out = record { bytes = refl; count = refl }

-- two texts, one behind the other
pub then : {out out₁ s t new : List ℕ} {at n : ℕ} → Written out s out₁ at → Written (mid_of at (length out₁ - at) out₁) t new n
    → Written out (s ++ t) (put_mid at (length out₁ - at) out₁ new) (at + n)
then {out} {out₁} {s} {t} {new} {at} v w =
    let first : take at out₁ ≡ s = ap (take at) v.bytes ∙ take_at s _ at (sym v.count) in
    let behind : drop at out₁ ≡ drop (length s) out = ap (drop at) v.bytes ∙ drop_at s _ at (sym v.count) in
    let second : new ≡ t ++ drop (length s + length t) out =
    w.bytes ∙ ap (λ r. t ++ drop (length t) r) (mid_end at out₁ ∙ behind) ∙ ap (λ r. t ++ r) (drop-drop (length t) (length s) out) in
    record {
      bytes = put_end at out₁ new ∙ ap₂ (λ a b. a ++ b) first second ∙ sym (append_assoc s t _)
          ∙ ap (λ k. (s ++ t) ++ drop k out) (sym (length-append s t));
      count = omega (arith, length-append s t, v.count, w.count);
    }

-- where two texts fit one behind the other, the first fits
pub room_first : {out : List ℕ} (s t : List ℕ) → Room out (s ++ t) → Room out s
room_first s t r = record { fits = omega (arith, length-append s t, r.fits) }

-- and once it is put, the second fits behind it
pub room_next : {out out₁ s : List ℕ} {at : ℕ} (t : List ℕ) → Written out s out₁ at → Room out (s ++ t)
    → Room (mid_of at (length out₁ - at) out₁) t
room_next {out} {out₁} {s} {at} t w r =
    let long = same_size (room_first s t r) w in
    room_at at out₁ t (omega (arith, length-append s t, w.count, long, r.fits))

-- ---- a text piece by piece

-- the text's bytes in front of `at` stand in out₁, the rest is still to be put, and what stands from `at` on is as it was
pub record Left (out text out₁ : List ℕ) (at : ℕ) (rest : List ℕ) : Type 0 where
  pub front : text ≡ take at out₁ ++ rest
  pub behind : drop at out₁ ≡ drop at out
  pub place : at + length rest ≡ length text
  pub size : length out₁ ≡ length out

-- at the start the whole text is left
pub left_start : (out text : List ℕ) → Left out text out 0 text
left_start out text = record { front = refl; behind = refl; place = omega arith; size = refl }

-- there is room for the next piece
pub left_fits : {out text out₁ : List ℕ} {at : ℕ} (s rest : List ℕ) → Room out text → Left out text out₁ at (s ++ rest)
    → at + length s ≤ length out₁
left_fits s rest r l = omega (arith, length-append s rest, l.place, l.size, r.fits)

pub left_room : {out text out₁ : List ℕ} {at : ℕ} (s rest : List ℕ) → Room out text → Left out text out₁ at (s ++ rest)
    → Room (mid_of at (length out₁ - at) out₁) s
left_room s rest r l = room_at _ _ s (left_fits s rest r l)

-- and once it is put, the rest is left
pub left_put : {out text out₁ s new : List ℕ} {at n : ℕ} (rest : List ℕ) → at + length s ≤ length out₁
    → Written (mid_of at (length out₁ - at) out₁) s new n → Left out text out₁ at (s ++ rest)
    → Left out text (put_mid at (length out₁ - at) out₁ new) (at + n) rest
left_put {out} {text} {out₁} {s} {new} {at} {n} rest fits w l =
    let head = take at out₁ in
    let tail : List ℕ = drop (length s) (drop at out₁) in
    let put : put_mid at (length out₁ - at) out₁ new ≡ (head ++ s) ++ tail =
    put_end at out₁ new ∙ ap (λ r. head ++ r) (w.bytes ∙ ap (λ r. s ++ drop (length s) r) (mid_end at out₁)) ∙ sym (append_assoc head s tail) in
    let long : length (head ++ s) ≡ at + n = omega (arith, length-append head s, length-take-le at out₁ (omega (arith, fits)), w.count) in
    record {
      front = l.front ∙ sym (append_assoc head s rest)
          ∙ ap (λ r. r ++ rest) (sym (ap (take (at + n)) put ∙ take_at (head ++ s) tail (at + n) long));
      behind = ap (drop (at + n)) put ∙ drop_at (head ++ s) tail (at + n) long ∙ ap (drop (length s)) l.behind
          ∙ drop-drop (length s) at out ∙ ap (λ k. drop (at + k) out) (sym w.count);
      place = omega (arith, length-append s rest, l.place, w.count);
      size = same_len_mid at (length out₁ - at) out₁ new (same_size (room_at at out₁ s fits) w) ∙ l.size;
    }

pub left_step : {out text out₁ s new : List ℕ} {at n : ℕ} (rest : List ℕ) → Room out text
    → Written (mid_of at (length out₁ - at) out₁) s new n → Left out text out₁ at (s ++ rest)
    → Left out text (put_mid at (length out₁ - at) out₁ new) (at + n) rest
left_step {s = s} rest r w l = left_put rest (left_fits s rest r l) w l

-- where nothing is left, the text is put
pub left_end : {out text out₁ : List ℕ} {at : ℕ} → Left out text out₁ at [] → Written out text out₁ at
left_end {out} {text} {out₁} {at} l =
    let e : text ≡ take at out₁ = l.front ∙ append-nil (take at out₁) in
    let long : at ≡ length text = omega (arith, l.place) in
    record {
      bytes = sym (take-append-drop at out₁) ∙ ap₂ (λ a b. a ++ b) (sym e) (l.behind ∙ ap (λ k. drop k out) long);
      count = long;
    }
