-- How a loop over the registers goes on, and where it ends.
use Prim.Native.Nat.{ℕ, ◌+◌, ◌≤◌, ◌<◌}
use native.Mathlib.Numerals.{add-one}
use mathlib.Core.Path.{◌≡◌}
use mathlib.Core.List.{List, [], ◌++◌}
use lib.ListN.{length, get_or, drop, drop_of_length-le}
use lib.Seq.{drop-cons}
use Rattle.report.specs.Lines.{line_unless_zero, register_lines_from}

module _ (values : List ℕ) (i : ℕ) where
  pub registers_on : i < length values
      → register_lines_from i (drop i values) ≡ line_unless_zero i (get_or values i 0) ++ register_lines_from (i + 1) (drop (i + 1) values)
  unfolding register_lines_from
  registers_on inside = rw (add-one, drop-cons values i 0)

  pub registers-end : length values ≤ i → register_lines_from i (drop i values) ≡ []
  unfolding register_lines_from
  registers-end behind = rw (drop_of_length-le values behind)
