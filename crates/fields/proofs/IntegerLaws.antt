-- Laws of little-endian integers: they come back from their bytes, and bytes come back from their integer; then what the loops
-- that read and write them need.
use Prim.Native.Nat.{ℕ, zero, suc, ◌+◌, ◌-◌, ◌*◌, ◌/◌, ◌%◌, ◌^◌, ◌≤◌, ◌<◌}
use mathlib.Core.Path.{◌≡◌, refl, ap, ◌∙◌}
use mathlib.Core.List.{List, [], ◌∷◌, ◌++◌}
use native.Mathlib.Nat.{pow-suc, pow-le-pow_right}
use native.Mathlib.Numerals.{add-one}
use native.Mathlib.Omega.{arith}
use lib.Dec.{lit<}
use lib.ListN.{get_or, set, length, take, drop, length-append}
use lib.Seq.{sets, append_snoc, get_or-append_seam, drop-cons, get_or-take, get_or-drop}
use Rattle.std.specs.Int.{from_le_bytes, w64}
use Rattle.fields.specs.Integers.{integer_at, integer_bytes, widest}

pub length-integer_bytes : (width v : ℕ) → length (integer_bytes width v) ≡ width
unfolding integer_bytes
length-integer_bytes zero v = refl
length-integer_bytes (suc width) v = ap suc (length-integer_bytes width (v / 256))

-- what was written is read, whatever stands before and behind it
pub integer_back : (width v : ℕ) (before behind : List ℕ) → v < 256 ^ width
    → integer_at (before ++ (integer_bytes width v ++ behind)) (length before) width ≡ v
unfolding integer_at integer_bytes
integer_back zero v before behind p = omega arith
integer_back (suc width) v before behind p =
    let byte = v % 256 in
    let rest = integer_bytes width (v / 256) ++ behind in
    let q : v < 256 ^ width * 256 = rw pow-suc at p in
    let longer : length (before ++ (byte ∷ [])) ≡ suc (length before) = length-append before (byte ∷ []) ∙ add-one (length before) in
    let back : integer_at ((before ++ (byte ∷ [])) ++ rest) (length (before ++ (byte ∷ []))) width ≡ v / 256
    = integer_back width (v / 256) (before ++ (byte ∷ [])) behind (omega arith) in
    let back' : integer_at (before ++ (byte ∷ rest)) (suc (length before)) width ≡ v / 256 = rw (append_snoc, longer) at back in
    rw (get_or-append_seam before byte rest 0, back') (omega arith)

-- every element is a byte
abbrev pub Bytes : List ℕ → Type 0
Bytes s = (i : ℕ) → get_or s i 0 < 256

-- what was read is written
pub bytes_back : (width : ℕ) (s : List ℕ) (at : ℕ) → Bytes s → at + width ≤ length s
    → integer_bytes width (integer_at s at width) ≡ take width (drop at s)
unfolding integer_at integer_bytes
bytes_back zero s at b p = refl
bytes_back (suc width) s at b p =
    let first = b at in
    let rest = integer_at s (suc at) width in
    let low : (get_or s at 0 + 256 * rest) % 256 ≡ get_or s at 0 = omega arith in
    let high : (get_or s at 0 + 256 * rest) / 256 ≡ rest = omega arith in
    rw (drop-cons s at 0 (omega arith), low, high, bytes_back width s (suc at) b (omega arith))

-- one byte more is within one width more
pub one_more_within : (v b k : ℕ) → v < 256 ^ k → b < 256 → v * 256 + b < 256 ^ suc k
one_more_within v b k p q = rw pow-suc (omega arith)

-- what was read is within its width
pub integer_within : (width : ℕ) (s : List ℕ) (at : ℕ) → Bytes s → integer_at s at width < 256 ^ width
unfolding integer_at
integer_within zero s at b = lit< tt
integer_within (suc width) s at b =
    let rest = one_more_within (integer_at s (suc at) width) (get_or s at 0) width (integer_within width s (suc at) b) (b at) in
    omega arith

-- ---- the loops

-- one byte more in front
pub integer_down : (s : List ℕ) (at i width : ℕ) → 0 < i → i ≤ width
    → integer_at s (at + (i - 1)) (width - (i - 1)) ≡ get_or s (at + (i - 1)) 0 + 256 * integer_at s (at + i) (width - i)
unfolding integer_at
integer_down s at i width p q =
    let more : width - (i - 1) ≡ suc (width - i) = omega arith in
    let next : suc (at + (i - 1)) ≡ at + i = omega arith in
    rw (more, next)

pub pow-widest : (k : ℕ) → k ≤ widest → 256 ^ k ≤ 256 ^ widest
pow-widest k h = pow-le-pow_right (lit< tt) h

-- one byte more written
pub byte_put : (out : List ℕ) (at i width v : ℕ) → i < width
    → sets (set out (at + i) (v % 256)) (at + (i + 1)) (integer_bytes (width - (i + 1)) (v / 256))
    ≡ sets out (at + i) (integer_bytes (width - i) v)
unfolding integer_bytes
byte_put out at i width v p =
    let more : width - i ≡ suc (width - (i + 1)) = omega arith in
    let next : at + (i + 1) ≡ suc (at + i) = omega arith in
    rw (more, next)

-- ---- eight bytes as an array

-- the k-th of the eight from `at` on
byte_of : (s : List ℕ) (at k place : ℕ) → k < widest → at + k ≡ place → get_or (take widest (drop at s)) k 0 ≡ get_or s place 0
byte_of s at k place h e = get_or-take widest (drop at s) k 0 h ∙ get_or-drop at s k 0 ∙ ap (λ (j : ℕ). get_or s j 0) e

pub word_of_bytes : (s : List ℕ) (at : ℕ) → from_le_bytes w64 (take widest (drop at s)) ≡ integer_at s at widest
unfolding integer_at
word_of_bytes s at =
    omega (
      arith,
      byte_of s at 0 at (lit< tt) (omega arith),
      byte_of s at 1 (suc at) (lit< tt) (omega arith),
      byte_of s at 2 (suc (suc at)) (lit< tt) (omega arith),
      byte_of s at 3 (suc (suc (suc at))) (lit< tt) (omega arith),
      byte_of s at 4 (suc (suc (suc (suc at)))) (lit< tt) (omega arith),
      byte_of s at 5 (suc (suc (suc (suc (suc at))))) (lit< tt) (omega arith),
      byte_of s at 6 (suc (suc (suc (suc (suc (suc at)))))) (lit< tt) (omega arith),
      byte_of s at 7 (suc (suc (suc (suc (suc (suc (suc at))))))) (lit< tt) (omega arith),
    )
