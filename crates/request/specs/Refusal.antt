-- The refusal numbers of document 01, by its words; that a number is not 5; and the numbers of the refusals and outcomes that the code has.
use Rattle.std.specs.Prelude.{ℕ, ◌≡◌, Result, Ok, Err}
use Rattle.request.specs.declared.refusal.Refusal.{Refusal}
use Rattle.request.specs.declared.refusal.Refusal.TheVariants as Word

-- no refusal
abbrev pub accepted : ℕ
accepted = 0

abbrev pub bad_shop : ℕ
bad_shop = 1

abbrev pub bad_number : ℕ
bad_number = 2

abbrev pub bad_operation : ℕ
bad_operation = 3

abbrev pub own_echo : ℕ
own_echo = 4

-- never met any more since document 02's request (b); the theorems that say so name it
abbrev pub clock_back : ℕ
clock_back = 5

abbrev pub shift_full : ℕ
shift_full = 6

abbrev pub held_already : ℕ
held_already = 7

abbrev pub number_clash : ℕ
number_clash = 8

abbrev pub not_here : ℕ
not_here = 9

abbrev pub weak : ℕ
weak = 10

abbrev pub settled_already : ℕ
settled_already = 11

abbrev pub waits : ℕ
waits = 12

abbrev pub nothing_to_undo : ℕ
nothing_to_undo = 13

abbrev pub undo_first : ℕ
undo_first = 14

abbrev pub nothing_to_do : ℕ
nothing_to_do = 15

abbrev pub cut_short : ℕ
cut_short = 16

abbrev pub bad_length : ℕ
bad_length = 17

abbrev pub unknown_kind : ℕ
unknown_kind = 18

abbrev pub spare_set : ℕ
spare_set = 19

abbrev pub no_room : ℕ
no_room = 20

abbrev pub bad_context : ℕ
bad_context = 21

-- w is not 5, clock back
abbrev pub NotClockBack : ℕ → Type 0
NotClockBack w = w ≡ clock_back → ⊥

-- ---- the refusals that the code has

-- the number of a refusal
abbrev pub number_of : Refusal → ℕ
number_of Word.BadShop = bad_shop
number_of Word.BadNumber = bad_number
number_of Word.BadOperation = bad_operation
number_of Word.OwnEcho = own_echo
number_of Word.ShiftFull = shift_full
number_of Word.HeldAlready = held_already
number_of Word.NumberClash = number_clash
number_of Word.NotHere = not_here
number_of Word.Weak = weak
number_of Word.SettledAlready = settled_already
number_of Word.Waits = waits
number_of Word.NothingToUndo = nothing_to_undo
number_of Word.UndoFirst = undo_first
number_of Word.NothingToDo = nothing_to_do
number_of Word.CutShort = cut_short
number_of Word.BadLength = bad_length
number_of Word.UnknownKind = unknown_kind
number_of Word.SpareSet = spare_set
number_of Word.NoRoom = no_room
number_of Word.BadContext = bad_context

-- the number of an outcome: that of its refusal, or that of none
abbrev pub outcome_number : Result Unit Refusal → ℕ
outcome_number (Ok u) = accepted
outcome_number (Err w) = number_of w
