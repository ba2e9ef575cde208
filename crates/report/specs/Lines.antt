-- The lines of the printout. A line is a list of fields: a further column is a further element.
use Rattle.std.specs.Prelude.{ℕ, suc, cond, List, [], ◌∷◌, ◌++◌, eqb}
use Rattle.text.specs.Text.{ascii, decimal, numbers, line}

-- `board P panel`
unfoldable pub board_line : ℕ → ℕ → List ℕ
board_line panels own = line (ascii "board" ∷ numbers (panels ∷ own ∷ []))

-- `board refused` and the refusal number, the only line where the input has no two bytes or the shop is bad
unfoldable pub refused_line : ℕ → List ℕ
refused_line refusal = line (ascii "board" ∷ ascii "refused" ∷ numbers (refusal ∷ []))

-- a message: its place from 1, kind, panel, event, refusal number or 0, undos done since the line before
unfoldable pub message_line : ℕ → ℕ → ℕ → ℕ → ℕ → ℕ → List ℕ
message_line place kind panel event refusal undone = line (numbers (place ∷ kind ∷ panel ∷ event ∷ refusal ∷ undone ∷ []))

-- what stands for a number that could not be read
abbrev pub dash : List ℕ
dash = ascii "-"

-- a message that cannot be read: its place, three dashes, the refusal number and 0
unfoldable pub unread_line : ℕ → ℕ → List ℕ
unread_line place refusal = line (decimal place ∷ dash ∷ dash ∷ dash ∷ numbers (refusal ∷ 0 ∷ []))

-- the list lengths `settled`, `unsettled` and the step totals `undone`, `carried`
unfoldable pub totals_line : ℕ → ℕ → ℕ → ℕ → List ℕ
totals_line settled unsettled undone carried =
    line
    (ascii "settled" ∷ decimal settled
    ∷ ascii "unsettled" ∷ decimal unsettled
    ∷ ascii "undone" ∷ decimal undone
    ∷ ascii "carried" ∷ decimal carried ∷ [])

-- `register` number value
unfoldable pub register_line : ℕ → ℕ → List ℕ
register_line register value = line (ascii "register" ∷ numbers (register ∷ value ∷ []))

-- a register's line where it is not 0, otherwise none
unfoldable pub line_unless_zero : ℕ → ℕ → List ℕ
line_unless_zero register value = cond (eqb value 0) [] (register_line register value)

-- the same for registers in turn, the first of which has the number `register`
unfoldable pub register_lines_from : ℕ → List ℕ → List ℕ
register_lines_from register [] = []
register_lines_from register (value ∷ values) = line_unless_zero register value ++ register_lines_from (suc register) values

-- a line for each register not 0, rising
unfoldable pub register_lines : List ℕ → List ℕ
register_lines values = register_lines_from 0 values
