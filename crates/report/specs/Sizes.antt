-- The most bytes of each line, where panel, event and refusal number are held in one byte, kind and list lengths in two, and place,
-- step totals and register values in four.
use Rattle.std.specs.Prelude.{ℕ, suc, ◌*◌}
use Rattle.request.specs.Operations.{last_register}

abbrev pub most_board_bytes : ℕ
most_board_bytes = 14

abbrev pub most_refused_bytes : ℕ
most_refused_bytes = 18

-- of a message, whether it can be read or not
abbrev pub most_message_bytes : ℕ
most_message_bytes = 40

abbrev pub most_totals_bytes : ℕ
most_totals_bytes = 67

abbrev pub most_register_bytes : ℕ
most_register_bytes = 23

-- of all registers together
abbrev pub most_registers_bytes : ℕ
most_registers_bytes = suc last_register * most_register_bytes

-- the most digits of a register's number
abbrev pub register_digits : ℕ
register_digits = 2
