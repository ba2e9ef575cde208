-- The most digits of a number that is held in one, two or four bytes.
use Rattle.std.specs.Prelude.{ℕ}

abbrev pub byte_digits : ℕ
byte_digits = 3

abbrev pub short_digits : ℕ
short_digits = 5

abbrev pub wide_digits : ℕ
wide_digits = 10
