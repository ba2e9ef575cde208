-- Text as a list of bytes: words, numbers in decimal, and lines of fields. What a text makes of lent bytes is in `Written`.
use Rattle.std.specs.Prelude.{ℕ, zero, suc, ◌+◌, ◌/◌, ◌%◌, List, [], ◌∷◌, ◌++◌, map}
use Prim.Native.Char.{code}
use Prim.Native.String.{String, [] as []ᵗ, ◌∷◌ as ◌∷ᵗ◌}

-- the bytes of a word in ASCII
unfoldable pub ascii : String → List ℕ
ascii []ᵗ = []
ascii (c ∷ᵗ cs) = code c ∷ ascii cs

-- the byte between two fields of a line
abbrev pub space : ℕ
space = 32

-- the byte that ends a line
abbrev pub newline : ℕ
newline = 10

-- the ASCII byte of the digit d
abbrev pub digit : ℕ → ℕ
digit d = 48 + d

-- the decimal digits of n without zeros in front, the most significant first: none for 0. n is at most `most`
unfoldable pub significant : ℕ → ℕ → List ℕ
significant zero n = []
significant (suc most) zero = []
significant (suc most) (suc n) = significant most (suc n / 10) ++ digit (suc n % 10) ∷ []

-- n in decimal: the digits of its tenth, and its last digit
unfoldable pub decimal : ℕ → List ℕ
decimal n = significant n (n / 10) ++ digit (n % 10) ∷ []

-- numbers as fields
abbrev pub numbers : List ℕ → List (List ℕ)
numbers ns = map decimal ns

-- each field with one space in front of it, and then the line's end
unfoldable pub rest_of_line : List (List ℕ) → List ℕ
rest_of_line [] = newline ∷ []
rest_of_line (field ∷ fields) = space ∷ field ++ rest_of_line fields

-- the fields with one space between each two, and then the line's end
unfoldable pub line : List (List ℕ) → List ℕ
line [] = newline ∷ []
line (field ∷ fields) = field ++ rest_of_line fields
