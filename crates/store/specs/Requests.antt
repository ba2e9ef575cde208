-- Requests by slot in three arrays: the clocks, a word each of what they ask for, and the words of the contexts one after the other.
use Rattle.std.specs.Prelude.{ℕ, ◌+◌, ◌*◌, ◌/◌, ◌%◌, ◌^◌, ◌≡◌, List, length, get_or, set, eqb}
use Rattle.std.proofs.lemmas.List.Edits.{sets}
use Rattle.std.proofs.Math.Seq.{slice}
use Rattle.lists.specs.Lists.{one}
use Rattle.numbers.specs.declared.Clock.{Clock}
use Rattle.numbers.specs.declared.Number.{Number}
use Rattle.sets.specs.declared.Context.{Context}
use Rattle.request.specs.declared.Asked.{Asked}
use Rattle.request.specs.declared.Request.{Request}
use Rattle.numbers.specs.Numbers.{clock_reading, most_panels}
use Rattle.numbers.specs.internal.Slots.{number_of}
use Rattle.sets.specs.Sets.{set_of}
use Rattle.ordering.specs.Slots.{most_slots}

-- ---- the word of what a request asks for: eight bits each for code, r and q, one for the strength, and the upper half for the amount

-- one past the greatest number in eight bits
abbrev pub byte : ℕ
byte = 2 ^ 8

-- what r, q, the strength and the amount are multiplied by in the word; the code stands lowest
abbrev pub unit_r : ℕ
unit_r = 2 ^ 8

abbrev pub unit_q : ℕ
unit_q = 2 ^ 16

abbrev pub unit_strength : ℕ
unit_strength = 2 ^ 24

abbrev pub unit_amount : ℕ
unit_amount = 2 ^ 32

-- what a word says is asked for
unfoldable pub asked_in : ℕ → Asked
asked_in w = record {
  code = w % byte;
  r = w / unit_r % byte;
  q = w / unit_q % byte;
  strong = eqb (w / unit_strength % 2) 1;
  amount = w / unit_amount;
}

-- the word of what is asked for
unfoldable pub word_of : Asked → ℕ
word_of a =
    a.code + unit_r * a.r + unit_q * a.q + unit_strength * one a.strong + unit_amount * a.amount

-- w is the word of a, which is read from it again
pub record WordAs (a : Asked) (w : ℕ) : Type 0 where
  pub word : w ≡ word_of a
  pub read : asked_in w ≡ a

-- ---- a request at a slot

-- the context at slot s: a word for each panel
unfoldable pub context_at : List ℕ → ℕ → Context
context_at contexts s = set_of (slice (most_panels * s) (most_panels * s + most_panels) contexts)

-- the request of that number, clock reading and asking, with the context in those words
abbrev pub request_of : Number → Clock → Asked → List ℕ → Request
request_of n clock asked words = record { number = n; clock = clock; asked = asked; context = set_of words }

-- the request at slot s, which has the slot's number
unfoldable pub request_at : List ℕ → List ℕ → List ℕ → ℕ → Request
request_at clocks askings contexts s = record {
  number = number_of s;
  clock = clock_reading (get_or clocks s 0);
  asked = asked_in (get_or askings s 0);
  context = context_at contexts s;
}

-- how long the words of all contexts are
abbrev pub most_words : ℕ
most_words = most_panels * most_slots

-- the three arrays are as long as the table needs
pub record Long (cs os ws : List ℕ) : Type 0 where
  pub clocks : length cs ≡ most_slots
  pub askings : length os ≡ most_slots
  pub contexts : length ws ≡ most_words

-- the arrays cs, os and ws became cs', os' and ws': x was stored at a slot, where it is read again if that is its number's slot
pub record Stored (cs os ws : List ℕ) (slot : ℕ) (x : Request) (cs' os' ws' : List ℕ) : Type 0 where
  pub clocks : cs' ≡ set cs slot x.clock.0
  pub askings : os' ≡ set os slot (word_of x.asked)
  pub contexts : ws' ≡ sets ws (most_panels * slot) x.context.words
  pub words : length x.context.words ≡ most_panels
  pub there : x.number ≡ number_of slot → request_at cs' os' ws' slot ≡ x
