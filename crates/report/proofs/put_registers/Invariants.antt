-- What the loop of `put_registers` keeps: in front of `at` stand the lines, but for those of the registers from the loop's index on.
use lib.ListN.{drop}
use Rattle.text.proofs.WrittenLaws.{Left}
use Rattle.report.specs.Lines.{register_lines_from, register_lines}
use Rattle.report.proofs.put_registers.Given as goal

abbrev pub invariant-loop-i : goal.invariant-loop-i
invariant-loop-i l = Left l.initial.out (register_lines l.registers) l.out l.at (register_lines_from l.i (drop l.i l.registers))
