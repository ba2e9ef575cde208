-- Numbers in decimal, worked: the least, where a digit is added, and the greatest of four and of eight bytes.
use Prim.Native.Nat.{◌-◌, ◌^◌}
use mathlib.Core.Path.{◌≡◌, refl}
use mathlib.Core.List.{[], ◌∷◌}
use Rattle.text.specs.Text.{ascii, significant, decimal, numbers, rest_of_line, line}

numbers-worked : line (numbers (0 ∷ 9 ∷ 10 ∷ 21 ∷ 100 ∷ (2 ^ 32 - 1) ∷ (2 ^ 64 - 1) ∷ []))
    ≡ ascii "0 9 10 21 100 4294967295 18446744073709551615\n"
unfolding ascii significant decimal rest_of_line line
numbers-worked = refl
