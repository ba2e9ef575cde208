-- What stands in the fields of a message: a number and the body of a request as fields, and both, part by part, from given fields.
use Rattle.std.specs.Prelude.{ℕ, Bool, List, [], ◌∷◌, get_or}
use Rattle.numbers.specs.declared.Number.{Number}
use Rattle.numbers.specs.declared.Clock.{Clock}
use Rattle.sets.specs.declared.Context.{Context}
use Rattle.request.specs.declared.Asked.{Asked}
use Rattle.request.specs.declared.Request.{Request}
use Rattle.numbers.specs.Numbers.{numbered}
use Rattle.fields.specs.Widths.{panel_field, event_field, clock_field, code_field, r_field, q_field, amount_field}

-- the spare byte
abbrev pub spare_byte : ℕ
spare_byte = 0

-- panel, event
abbrev pub number_fields : Number → List ℕ
number_fields n = n.panel.0 ∷ n.event.0 ∷ []

-- clock, code, r, q, spare, amount
abbrev pub body_fields : Request → List ℕ
body_fields r =
    r.clock.0 ∷ r.asked.code ∷ r.asked.r ∷ r.asked.q ∷ spare_byte ∷ r.asked.amount ∷ []

-- the number
abbrev pub number_from : List ℕ → Number
number_from f = numbered (get_or f panel_field 0) (get_or f event_field 0)

-- the clock
abbrev pub clock_from : List ℕ → Clock
clock_from f = record { 0 = get_or f clock_field 0 }

-- what is asked for, given its strength
abbrev pub asked_from : List ℕ → Bool → Asked
asked_from f strong =
    record { code = get_or f code_field 0; r = get_or f r_field 0; q = get_or f q_field 0; strong = strong; amount = get_or f amount_field 0 }

-- the request, given its strength and its context
abbrev pub request_from : List ℕ → Bool → Context → Request
request_from f strong context = record { number = number_from f; clock = clock_from f; asked = asked_from f strong; context = context }
