-- Sets of numbers as words: word p is panel p's, and bit e − 1 of it event e's. A request's context and the known set are such sets.
use Rattle.std.specs.Prelude.{ℕ, suc, ◌+◌, ◌-◌, ◌/◌, ◌%◌, ◌^◌, ◌<◌, ◌≡◌, Bool, true, false, not, ◌&&◌, cond, List, [], ◌∷◌, length, get_or, set, drop, replicate, eqb}
use Rattle.std.specs.Int.Bits.{bit_and, bit_or, bit_xor}
use Rattle.std.specs.Int.Count.{count_trailing_zeros}
use Rattle.sets.specs.declared.Context.{Context}
use Rattle.numbers.specs.declared.Number.{Number}
use Rattle.numbers.specs.Numbers.{numbered, no_number, most_panels, most_events, bad_number}

abbrev pub set_of : List ℕ → Context
set_of ws = record { words = ws }

-- a set as the code holds it: a word for each panel, a bit for each event
pub record Words (s : Context) : Type 0 where
  pub count : length s.words ≡ most_panels
  pub small : (p : ℕ) → get_or s.words p 0 < 2 ^ most_events

-- the set with no number
abbrev pub empty_set : Context
empty_set = set_of (replicate most_panels 0)

unfoldable pub same_words : List ℕ → List ℕ → Bool
same_words [] [] = true
same_words [] (y ∷ ys) = false
same_words (x ∷ xs) [] = false
same_words (x ∷ xs) (y ∷ ys) = eqb x y && same_words xs ys

-- the words are equal
unfoldable pub same_context : Context → Context → Bool
same_context a b = same_words a.words b.words

unfoldable pub all_zero : List ℕ → Bool
all_zero [] = true
all_zero (w ∷ ws) = eqb w 0 && all_zero ws

-- s names a panel not below p: a word from p on is not 0
unfoldable pub names_from : ℕ → Context → Bool
names_from p s = not (all_zero (drop p s.words))

unfoldable pub is_empty : Context → Bool
is_empty s = all_zero s.words

-- bit k of the word w
unfoldable pub bit : ℕ → ℕ → Bool
bit k w = eqb (w / 2 ^ k % 2) 1

-- the word of n's panel
abbrev pub word_for : Context → Number → ℕ
word_for s n = get_or s.words n.panel.0 0

-- n is in s; a number that no shop of eight panels has is in no set
unfoldable pub member : Context → Number → Bool
member s n = cond (bad_number most_panels n) false (bit (n.event.0 - 1) (word_for s n))

-- the word in which only n's bit is set
abbrev pub mask_of : Number → ℕ
mask_of n = 2 ^ (n.event.0 - 1)

-- s with n
unfoldable pub join : Context → Number → Context
join s n = cond (bad_number most_panels n) s (set_of (set s.words n.panel.0 (bit_or (word_for s n) (mask_of n))))

-- s without n
unfoldable pub leave : Context → Number → Context
leave s n = cond (member s n) (set_of (set s.words n.panel.0 (bit_xor (word_for s n) (mask_of n)))) s

-- word by word, the bits that the first has and the second lacks
unfoldable pub lacked_words : List ℕ → List ℕ → List ℕ
lacked_words [] vs = []
lacked_words (w ∷ ws) [] = w ∷ lacked_words ws []
lacked_words (w ∷ ws) (v ∷ vs) = (w - bit_and w v) ∷ lacked_words ws vs

-- the numbers that s has and t lacks
unfoldable pub difference : Context → Context → Context
difference s t = set_of (lacked_words s.words t.words)

-- every number of s is in t
unfoldable pub subset : Context → Context → Bool
subset s t = is_empty (difference s t)

-- the lowest number in the words of the panels from p on
unfoldable pub lowest_from : ℕ → List ℕ → Number
lowest_from p [] = no_number
lowest_from p (w ∷ ws) = cond (eqb w 0) (lowest_from (suc p) ws) (numbered p (count_trailing_zeros most_events w + 1))

-- the lowest number of s, lowest panel and then lowest event; 0/0 where s is empty
unfoldable pub lowest : Context → Number
lowest s = lowest_from 0 s.words

-- the lowest number that s has and t lacks; 0/0 where there is none
unfoldable pub lowest_lacking : Context → Context → Number
lowest_lacking s t = lowest (difference s t)
