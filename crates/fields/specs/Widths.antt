-- The fields of bus messages, document 01's table: their widths in order, alone and together as messages have them, and their places; and
-- what follows for any widths. Which kind has which is in `wire`.
use Rattle.std.specs.Prelude.{ℕ, suc, ◌+◌, ◌^◌, ◌<◌, List, [], ◌∷◌, ◌++◌, length, replicate}
use Rattle.numbers.specs.Numbers.{most_panels}
use Rattle.fields.specs.Integers.{integer_at, integer_bytes}

-- ---- the fields, by their widths in bytes

-- length, kind
abbrev pub head_widths : List ℕ
head_widths = 2 ∷ 2 ∷ []

-- panel, event
abbrev pub number_widths : List ℕ
number_widths = 1 ∷ 1 ∷ []

-- clock, code, r, q, spare, amount
abbrev pub body_widths : List ℕ
body_widths = 4 ∷ 1 ∷ 1 ∷ 1 ∷ 1 ∷ 4 ∷ []

-- a byte of a run of bytes
abbrev pub byte_width : ℕ
byte_width = 1

-- a word of the context
abbrev pub word_width : ℕ
word_width = 8

-- the words of the context, one for each panel
abbrev pub context_widths : List ℕ
context_widths = replicate most_panels word_width

-- ---- the fields together

-- those of a settlement
abbrev pub settlement_widths : List ℕ
settlement_widths = head_widths ++ number_widths

-- those of a weak request
abbrev pub weak_widths : List ℕ
weak_widths = head_widths ++ number_widths ++ body_widths

-- those of a strong one
abbrev pub strong_widths : List ℕ
strong_widths = head_widths ++ number_widths ++ body_widths ++ context_widths

-- ---- the fields, by their places in a layout that has them

abbrev pub length_field : ℕ
length_field = 0

abbrev pub kind_field : ℕ
kind_field = suc length_field

abbrev pub panel_field : ℕ
panel_field = suc kind_field

abbrev pub event_field : ℕ
event_field = suc panel_field

abbrev pub clock_field : ℕ
clock_field = suc event_field

abbrev pub code_field : ℕ
code_field = suc clock_field

abbrev pub r_field : ℕ
r_field = suc code_field

abbrev pub q_field : ℕ
q_field = suc r_field

abbrev pub spare_field : ℕ
spare_field = suc q_field

abbrev pub amount_field : ℕ
amount_field = suc spare_field

-- the first word of the context
abbrev pub context_field : ℕ
context_field = suc amount_field

-- ---- what follows for any widths

-- the bytes of fields of these widths
abbrev pub size : List ℕ → ℕ
size [] = 0
size (w ∷ ws) = w + size ws

-- the values of fields of these widths, from place at of s on
unfoldable pub decode : List ℕ → List ℕ → ℕ → List ℕ
decode [] s at = []
decode (w ∷ ws) s at = integer_at s at w ∷ decode ws s (at + w)

-- the bytes of these values in fields of these widths
unfoldable pub encode : List ℕ → List ℕ → List ℕ
encode [] vs = []
encode (w ∷ ws) [] = []
encode (w ∷ ws) (v ∷ vs) = integer_bytes w v ++ encode ws vs

-- there is a value for each width, and none is wider
abbrev pub Within : List ℕ → List ℕ → Type 0
Within [] [] = Unit {0}
Within [] (v ∷ vs) = ⊥
Within (w ∷ ws) [] = ⊥
Within (w ∷ ws) (v ∷ vs) = (v < 256 ^ w) × Within ws vs

-- ---- the head

-- how many fields it has
abbrev pub head_fields : ℕ
head_fields = length head_widths

-- the bytes of length and kind
abbrev pub head_size : ℕ
head_size = size head_widths
