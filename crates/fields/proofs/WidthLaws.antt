-- Laws of layouts, for any widths: fields come back from their bytes, and bytes come back from their fields; then what writing
-- them one after the other needs.
use Prim.Native.Nat.{ℕ, zero, suc, ◌+◌, ◌-◌, ◌^◌, ◌≤◌, ◌<◌}
use mathlib.Core.Path.{◌≡◌, refl, sym, ap, ◌∙◌}
use mathlib.Core.List.{List, [], ◌∷◌, ◌++◌, append_assoc}
use native.Mathlib.Nat.{add-zero, add-suc, suc-add}
use native.Mathlib.Numerals.{add-one}
use native.Mathlib.Omega.{arith}
use lib.Dec.{lit<}
use lib.ListN.{get_or, set, take, drop, length, replicate, length-append}
use lib.Seq.{sets, drop-cons, take-add, drop-drop}
use Rattle.numbers.specs.Numbers.{most_panels}
use Rattle.fields.specs.Integers.{integer_at, integer_bytes}
use Rattle.fields.specs.Widths.{byte_width, word_width, size, decode, encode, Within}
use Rattle.fields.proofs.IntegerLaws.{length-integer_bytes, integer_back, Bytes, bytes_back, integer_within}

pub size-append : (ws vs : List ℕ) → size (ws ++ vs) ≡ size ws + size vs
size-append [] vs = omega arith
size-append (w ∷ ws) vs = omega (arith, size-append ws vs)

-- a run of n bytes is n fields of a byte each
pub size_bytes : (n : ℕ) → size (replicate n byte_width) ≡ n
size_bytes zero = refl
size_bytes (suc n) = omega (arith, size_bytes n)

pub length-decode : (ws s : List ℕ) (at : ℕ) → length (decode ws s at) ≡ length ws
unfolding decode
length-decode [] s at = refl
length-decode (w ∷ ws) s at = ap suc (length-decode ws s (at + w))

pub length-encode : (ws vs : List ℕ) → length ws ≡ length vs → length (encode ws vs) ≡ size ws
unfolding encode
length-encode [] vs e = refl
length-encode (w ∷ ws) [] e = absurd (omega arith)
length-encode (w ∷ ws) (v ∷ vs) e =
    length-append (integer_bytes w v) (encode ws vs) ∙ rw (length-integer_bytes, length-encode ws vs (omega arith))

pub length_within : (ws vs : List ℕ) → Within ws vs → length ws ≡ length vs
length_within [] [] h = refl
length_within [] (v ∷ vs) h = absurd h
length_within (w ∷ ws) [] h = absurd h
length_within (w ∷ ws) (v ∷ vs) h = ap suc (length_within ws vs h.1)

-- what was written is read, whatever stands before and behind it
pub fields_back : (ws vs before behind : List ℕ) → Within ws vs
    → decode ws (before ++ (encode ws vs ++ behind)) (length before) ≡ vs
unfolding decode encode
fields_back [] [] before behind h = refl
fields_back [] (v ∷ vs) before behind h = absurd h
fields_back (w ∷ ws) [] before behind h = absurd h
fields_back (w ∷ ws) (v ∷ vs) before behind h =
    let passed = before ++ integer_bytes w v in
    let rest = encode ws vs ++ behind in
    let longer : length passed ≡ length before + w = length-append before (integer_bytes w v) ∙ rw length-integer_bytes in
    let inner : (integer_bytes w v ++ encode ws vs) ++ behind ≡ integer_bytes w v ++ rest
    = append_assoc (integer_bytes w v) (encode ws vs) behind in
    let outer : before ++ (integer_bytes w v ++ rest) ≡ passed ++ rest = sym (append_assoc before (integer_bytes w v) rest) in
    let back : decode ws (passed ++ rest) (length passed) ≡ vs = fields_back ws vs passed behind h.1 in
    rw (inner, integer_back w v before rest h.0, outer, ← longer) (ap (λ (r : List ℕ). v ∷ r) back)

-- what was read is written
pub run_back : (ws s : List ℕ) (at : ℕ) → Bytes s → at + size ws ≤ length s → encode ws (decode ws s at) ≡ take (size ws) (drop at s)
unfolding decode encode
run_back [] s at b p = refl
run_back (w ∷ ws) s at b p =
    rw (bytes_back w s at b (omega arith), run_back ws s (at + w) b (omega arith), take-add w (size ws) (drop at s), drop-drop w at s)

-- what was read is within its widths
pub decode_within : (ws s : List ℕ) (at : ℕ) → Bytes s → Within ws (decode ws s at)
unfolding decode
decode_within [] s at b = tt
decode_within (w ∷ ws) s at b = (integer_within w s at b, decode_within ws s (at + w) b)

pub within-drop : (n : ℕ) (ws vs : List ℕ) → Within ws vs → Within (drop n ws) (drop n vs)
within-drop zero ws vs h = h
within-drop (suc n) [] [] h = tt
within-drop (suc n) [] (v ∷ vs) h = absurd h
within-drop (suc n) (w ∷ ws) [] h = absurd h
within-drop (suc n) (w ∷ ws) (v ∷ vs) h = within-drop n ws vs h.1

-- words are within their widths where they are small, and small where they are within
pub words_within : (n : ℕ) (ws : List ℕ) → length ws ≡ n → ((p : ℕ) → get_or ws p 0 < 256 ^ word_width)
    → Within (replicate n word_width) ws
words_within zero [] e h = tt
words_within zero (w ∷ ws) e h = absurd (omega arith)
words_within (suc n) [] e h = absurd (omega arith)
words_within (suc n) (w ∷ ws) e h = (h 0, words_within n ws (omega arith) (λ p. h (suc p)))

pub words_small : (n : ℕ) (ws : List ℕ) → Within (replicate n word_width) ws → (p : ℕ) → get_or ws p 0 < 256 ^ word_width
words_small zero [] h p = lit< tt
words_small zero (w ∷ ws) h p = absurd h
words_small (suc n) [] h p = absurd h
words_small (suc n) (w ∷ ws) h zero = h.0
words_small (suc n) (w ∷ ws) h (suc p) = words_small n ws h.1 p

-- ---- writing one after the other

pub sets-append : (vs us l : List ℕ) (i : ℕ) → sets l i (vs ++ us) ≡ sets (sets l i vs) (i + length vs) us
sets-append [] us l i = rw add-zero
sets-append (v ∷ vs) us l i = sets-append vs us (set l i v) (suc i) ∙ rw (suc-add, add-suc)

-- one field, and then others
pub field_then : (out out₁ out₂ : List ℕ) (at w v : ℕ) (ws vs : List ℕ)
    → out₁ ≡ sets out at (integer_bytes w v) → out₂ ≡ sets out₁ (at + w) (encode ws vs) → out₂ ≡ sets out at (encode (w ∷ ws) (v ∷ vs))
unfolding encode
field_then out out₁ out₂ at w v ws vs e f = f ∙ rw (e, sets-append, length-integer_bytes)

pub field_last : (out out₁ : List ℕ) (at w v : ℕ) → out₁ ≡ sets out at (integer_bytes w v) → out₁ ≡ sets out at (encode (w ∷ []) (v ∷ []))
unfolding encode
field_last out out₁ at w v e = field_then out out₁ out₁ at w v [] [] e refl

encode-append : (ws vs ws' vs' : List ℕ) → length ws ≡ length vs → encode (ws ++ ws') (vs ++ vs') ≡ encode ws vs ++ encode ws' vs'
unfolding encode
encode-append [] [] ws' vs' e = refl
encode-append [] (v ∷ vs) ws' vs' e = absurd (omega arith)
encode-append (w ∷ ws) [] ws' vs' e = absurd (omega arith)
encode-append (w ∷ ws) (v ∷ vs) ws' vs' e =
    rw (encode-append ws vs ws' vs' (omega arith)) (sym (append_assoc (integer_bytes w v) (encode ws vs) (encode ws' vs')))

-- some fields, and then others
pub fields_then : (out out₁ out₂ : List ℕ) (at : ℕ) (ws vs ws' vs' : List ℕ) → length ws ≡ length vs
    → out₁ ≡ sets out at (encode ws vs) → out₂ ≡ sets out₁ (at + size ws) (encode ws' vs')
    → out₂ ≡ sets out at (encode (ws ++ ws') (vs ++ vs'))
fields_then out out₁ out₂ at ws vs ws' vs' l e f =
    f ∙ rw (e, encode-append ws vs ws' vs' l, sets-append, length-encode ws vs l)

-- ---- the words of a context, one after the other

-- the widths of the words from the p-th on
abbrev pub words_from : ℕ → List ℕ
words_from p = replicate (most_panels - p) word_width

module _ (p : ℕ) (l : p < most_panels) where
  words_from_lem : words_from p ≡ word_width ∷ words_from (p + 1)
  words_from_lem =
      let more : most_panels - p ≡ suc (most_panels - (p + 1)) = omega arith in
      rw more

  -- one word more read
  pub word_read : (words s : List ℕ) (at v : ℕ) → v ≡ integer_at s at word_width
      → sets (set words p v) (p + 1) (decode (words_from (p + 1)) s (at + word_width)) ≡ sets words p (decode (words_from p) s at)
  unfolding decode
  word_read words s at v e = rw (words_from_lem, e, add-one p)

  -- one word more written
  pub word_put : (out words : List ℕ) (at : ℕ) → p < length words
      → sets (sets out at (integer_bytes word_width (get_or words p 0))) (at + word_width) (encode (words_from (p + 1)) (drop (p + 1) words))
      ≡ sets out at (encode (words_from p) (drop p words))
  unfolding encode
  word_put out words at q =
      let first : drop p words ≡ get_or words p 0 ∷ drop (p + 1) words = drop-cons words p 0 q ∙ rw (add-one p) in
      rw (words_from_lem, first, sets-append, length-integer_bytes)
