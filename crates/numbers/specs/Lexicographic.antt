-- Comparing by one count, and by what follows where it decides nothing.
use Rattle.std.specs.Prelude.{ℕ, Bool, ◌&&◌, ◌||◌, ltb, eqb}

-- a is below b, or they are equal and what follows decides
abbrev pub lexicographic : ℕ → ℕ → Bool → Bool
lexicographic a b rest = ltb a b || eqb a b && rest
