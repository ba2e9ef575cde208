-- What the functions that put the printout ask of and promise each other; what `print` promises is `Printed` of `printed`.
use Rattle.std.specs.Prelude.{ℕ, suc, ◌+◌, ◌-◌, ◌*◌, ◌≤◌, ◌≡◌, List, ◌++◌, length}
use Rattle.text.specs.Written.{Written}
use Rattle.report.specs.Lines.{totals_line, register_lines}
use Rattle.report.specs.Sizes.{most_message_bytes, most_totals_bytes, most_registers_bytes}
use Rattle.replica.specs.State.{State}
use Rattle.replica.specs.internal.Model.{model}
use Rattle.runs.specs.Found.{found_from}
use Rattle.printed.specs.Printout.{shop_bytes, most_messages, most_printed, after_all, message_lines, closing, printout}

-- the registers' lines were put
pub record RegistersPut (registers out out' : List ℕ) (n : ℕ) : Type 0 where
  pub written : Written out (register_lines registers) out' n
  pub few : n ≤ most_registers_bytes

-- the list lengths, the step totals and the registers of p were put
pub record ClosingPut (p : State) (out out' : List ℕ) (n : ℕ) : Type 0 where
  pub written : Written out (totals_line p.committed (p.ordered - p.committed) p.counters.undos p.counters.executions
      ++ register_lines p.registers) out' n
  pub few : n ≤ most_totals_bytes + most_registers_bytes

-- the most bytes of the lines of a shift
abbrev pub most_shift_bytes : ℕ
most_shift_bytes = most_messages * most_message_bytes + most_totals_bytes + most_registers_bytes

-- the lines of a shift that begins with p were put: those of what is found in s, and the closing lines
pub record ShiftPut (p : State) (s out out' : List ℕ) (n : ℕ) : Type 0 where
  pub written : Written out (message_lines 1 (model p) (found_from s shop_bytes)
      ++ closing (after_all (model p) (found_from s shop_bytes))) out' n
  pub few : n ≤ most_shift_bytes

-- the printout of all the input's bytes stands at the front
pub record PrintoutPut (input out out' : List ℕ) (n : ℕ) : Type 0 where
  pub written : Written out (printout input) out' n
  pub few : n ≤ most_printed
