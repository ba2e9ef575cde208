-- Laws of lines: how a loop over the numbers of a line goes on, and where it ends.
use Prim.Native.Nat.{ℕ, ◌+◌, ◌≤◌, ◌<◌}
use native.Mathlib.Numerals.{add-one}
use mathlib.Core.Path.{◌≡◌}
use mathlib.Core.List.{List, [], ◌∷◌, ◌++◌}
use lib.ListN.{length, get_or, drop, drop_of_length-le}
use lib.Seq.{drop-cons}
use Rattle.text.specs.Text.{space, newline, decimal, numbers, rest_of_line}

module _ (ns : List ℕ) (i : ℕ) where
  pub rest_on : i < length ns → rest_of_line (numbers (drop i ns)) ≡ (space ∷ decimal (get_or ns i 0)) ++ rest_of_line (numbers (drop (i + 1) ns))
  unfolding rest_of_line
  rest_on inside = rw (add-one, drop-cons ns i 0)

  pub rest_end : length ns ≤ i → rest_of_line (numbers (drop i ns)) ≡ newline ∷ []
  unfolding rest_of_line
  rest_end behind = rw (drop_of_length-le ns behind)
