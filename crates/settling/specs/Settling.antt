-- How a settlement is refused and answered, by what the state keeps.
use Rattle.std.specs.Prelude.{ℕ, ◌≡◌, Bool, not, cond, if◌then◌else◌, Option, Some, None, List, length, get_or, eqb}
use Rattle.sets.specs.declared.Context.{Context}
use Rattle.numbers.specs.declared.Number.{Number}
use Rattle.numbers.specs.Numbers.{most_panels, no_number, bad_number}
use Rattle.numbers.specs.internal.Slots.{GoodNumber, slot_of}
use Rattle.sets.specs.Sets.{member, subset, lowest_lacking}
use Rattle.request.specs.Refusal as refused
use Rattle.store.specs.Requests.{asked_in}
use Rattle.creek.specs.declared.Answer.{Answer}
use Rattle.creek.specs.Plan.{met}
use Rattle.creek.specs.Replies.{stable_mark, reply, done}

-- what needs no context, with those numbers held and known and what those held ask for: bad number, not here, weak, settled already
unfoldable pub early_refusal : ℕ → Context → Context → List ℕ → Number → ℕ
early_refusal panels held known askings n =
    met (bad_number panels n) refused.bad_number
    (met (not (member held n)) refused.not_here
    (met (not (asked_in (get_or askings (slot_of n) 0)).strong) refused.weak
    (met (member known n) refused.settled_already
    refused.accepted)))

-- the number that a request with that context waits for, with those numbers known
unfoldable pub missing_number : Context → Context → Option Number
missing_number context known = if subset context known then None else Some (lowest_lacking context known)

-- how many stay executed where the comparison up to `last`, behind which all agree, ended at `start`
abbrev pub agreed : ℕ → ℕ → ℕ → ℕ
agreed executed last start = cond (eqb start last) executed start

-- the answer of an accepted settlement: where a stable reply is due, that with the response
abbrev pub settled_answer : Bool → ℕ → Answer
settled_answer due response = cond due (reply no_number response stable_mark) done

-- what putting n and others into the set of the settled asks: the set is one of eight words, and n is good
pub record MarkAsks (settled_words : List ℕ) (n : Number) : Type 0 where
  pub long : length settled_words ≡ most_panels
  pub number : GoodNumber most_panels n
