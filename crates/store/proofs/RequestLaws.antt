-- Laws of the requests in the arrays: what was stored at a slot is read there, and nowhere else has anything changed.
use Prim.Native.Nat.{ℕ, ◌+◌, ◌*◌, ◌≤◌, ◌<◌}
use native.Mathlib.Omega.{arith}
use mathlib.Core.Path.{◌≡◌, sym, ap, ◌∙◌}
use mathlib.Core.Logic.{◌⊎◌, inl, inr}
use mathlib.Core.List.{List}
use lib.ListN.{length, get_or, set, length-set}
use lib.Seq.{get_or-set_same, get_or-set_other, sets, length-sets, slice}
use Rattle.request.specs.declared.Request.{Request}
use Rattle.numbers.specs.Numbers.{most_panels}
use Rattle.numbers.specs.internal.Slots.{number_of}
use Rattle.numbers.proofs.LexicographicLaws.{compared}
use Rattle.ordering.specs.Slots.{IsSlot}
use Rattle.store.specs.Requests.{WordAs, asked_in, context_at, request_at, Long, Stored}
use Rattle.store.proofs.SliceLaws.{slice_stored, slice-before, slice_behind}

-- ---- contexts

-- the words of slot t
abbrev words_at : List ℕ → ℕ → List ℕ
words_at ws t = slice (most_panels * t) (most_panels * t + most_panels) ws

-- after those of slot s were stored
module _ (ws words : List ℕ) (s : ℕ) (count : length words ≡ most_panels) where
  abbrev after : List ℕ
  after = sets ws (most_panels * s) words

  words_there : most_panels * s + most_panels ≤ length ws → words_at after s ≡ words
  words_there inside =
      let at = most_panels * s in
      ap (λ (n : ℕ). slice at (at + n) after) (sym count) ∙ slice_stored ws words at (omega (arith, count, inside))

  words_other : (t : ℕ) → (t ≡ s → ⊥) → words_at after t ≡ words_at ws t
  words_other t other = go (compared t s)
    where
      go : (t < s) ⊎ ((s < t) ⊎ (t ≡ s)) → words_at after t ≡ words_at ws t
      go (inl below) =
          let before : most_panels * t + most_panels ≤ most_panels * s = omega arith in
          slice-before ws words (most_panels * t) (most_panels * t + most_panels) (most_panels * s) before
      go (inr (inl above)) =
          let behind : most_panels * s + length words ≤ most_panels * t = omega arith in
          slice_behind ws words (most_panels * t) (most_panels * t + most_panels) (most_panels * s) behind (omega arith)
      go (inr (inr same)) = absurd (other same)

-- ---- requests

-- a store at a slot of the table
module _ {cs os ws cs' os' ws' : List ℕ} {slot w : ℕ} (x : Request)
    (fits : IsSlot slot) (long : Long cs os ws)
    (read : WordAs x.asked w) (count : length x.context.words ≡ most_panels)
    (clocks : cs' ≡ set cs slot x.clock.0) (askings : os' ≡ set os slot w)
    (contexts : ws' ≡ sets ws (most_panels * slot) x.context.words) where
  word_there : get_or os' slot 0 ≡ w
  word_there = ap (λ (l : List ℕ). get_or l slot 0) askings ∙ get_or-set_same os slot w 0 (omega arith)

  read_again : x.number ≡ number_of slot → request_at cs' os' ws' slot ≡ x
  unfolding request_at context_at
  read_again number =
      let clock : get_or cs' slot 0 ≡ x.clock.0 =
      ap (λ (l : List ℕ). get_or l slot 0) clocks ∙ get_or-set_same cs slot x.clock.0 0 (omega arith) in
      let asked : asked_in (get_or os' slot 0) ≡ x.asked = ap asked_in word_there ∙ read.read in
      let words : words_at ws' slot ≡ x.context.words =
      ap (λ (l : List ℕ). words_at l slot) contexts ∙ words_there ws x.context.words slot count (omega arith) in
      λ i. record {
        number = sym number i;
        clock = record { 0 = clock i };
        asked = asked i;
        context = record { words = words i };
      }

  pub stored : Stored cs os ws slot x cs' os' ws'
  stored = record {
    clocks = clocks;
    askings = askings ∙ ap (set os slot) read.word;
    contexts = contexts;
    words = count;
    there = read_again;
  }

module _ {cs os ws cs' os' ws' : List ℕ} {slot : ℕ} {x : Request} (after : Stored cs os ws slot x cs' os' ws') where
  -- the request at any other slot is as it was
  pub stored_other : (t : ℕ) → (t ≡ slot → ⊥) → request_at cs' os' ws' t ≡ request_at cs os ws t
  unfolding request_at context_at
  stored_other t other =
      let clock : get_or cs' t 0 ≡ get_or cs t 0 =
      ap (λ (l : List ℕ). get_or l t 0) after.clocks ∙ get_or-set_other cs slot t x.clock.0 0 other in
      let word : get_or os' t 0 ≡ get_or os t 0 =
      ap (λ (l : List ℕ). get_or l t 0) after.askings ∙ get_or-set_other os slot t _ 0 other in
      let words : words_at ws' t ≡ words_at ws t =
      ap (λ (l : List ℕ). words_at l t) after.contexts ∙ words_other ws x.context.words slot after.words t other in
      λ i. record {
        number = number_of t;
        clock = record { 0 = clock i };
        asked = asked_in (word i);
        context = record { words = words i };
      }

  -- the arrays are as long as they were
  pub stored_long : Long cs os ws → Long cs' os' ws'
  stored_long long = record {
    clocks = ap length after.clocks ∙ length-set cs slot _ ∙ long.clocks;
    askings = ap length after.askings ∙ length-set os slot _ ∙ long.askings;
    contexts = ap length after.contexts ∙ length-sets ws (most_panels * slot) x.context.words ∙ long.contexts;
  }
