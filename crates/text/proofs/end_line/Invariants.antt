-- What the loop of `end_line` keeps: in front of `at` stands the line, but for the numbers from the loop's index on.
use Rattle.std.proofs.Common.{drop}
use Rattle.text.specs.Text.{numbers, rest_of_line}
use Rattle.text.proofs.WrittenLaws.{Left}
use Rattle.text.proofs.end_line.Given as goal

abbrev pub invariant-loop-n : goal.invariant-loop-n
invariant-loop-n l = Left l.initial.out (rest_of_line (numbers l.ns)) l.out l.at (rest_of_line (numbers (drop l.n-index l.ns)))
