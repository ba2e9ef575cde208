-- Whole requests: zeros, equality, and what makes a context bad.
use Rattle.std.specs.Prelude.{ℕ, Bool, not, ◌&&◌, ◌||◌, eqb}
use Rattle.numbers.specs.declared.Number.{Number}
use Rattle.request.specs.declared.Request.{Request}
use Rattle.numbers.specs.Numbers.{clock_reading, no_number, same_number}
use Rattle.request.specs.Asked.{nothing_asked, same_asked}
use Rattle.sets.specs.Sets.{empty_set, same_context, is_empty, member, names_from}

-- a request of which only the number stands for something, and zeros elsewhere
abbrev pub bare_request : Number → Request
bare_request n = record { number = n; clock = clock_reading 0; asked = nothing_asked; context = empty_set }

-- the request of zeros, which stands where there is none
abbrev pub no_request : Request
no_request = bare_request no_number

-- all fields are equal
unfoldable pub same_request : Request → Request → Bool
same_request a b =
    same_number a.number b.number
    && eqb a.clock.0 b.clock.0
    && same_asked a.asked b.asked
    && same_context a.context b.context

-- bad context (refusal 21), in a shop of p panels: weak with a context; or one naming itself or a panel not below p
unfoldable pub bad_context : ℕ → Request → Bool
bad_context p x = not x.asked.strong && not (is_empty x.context) || member x.context x.number || names_from p x.context
