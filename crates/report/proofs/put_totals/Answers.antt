-- `put_totals` meets its contract: three labelled numbers, and then a line with the last label as its head.
use mathlib.Core.Path.{◌≡◌, ◌∙◌}
use mathlib.Core.List.{List, [], ◌∷◌, ◌++◌, append_assoc}
use Rattle.text.specs.Text.{ascii, decimal, numbers, rest_of_line, line}
use Rattle.text.proofs.WrittenLaws.{then}
use Rattle.report.specs.Lines.{totals_line}
use Rattle.report.proofs.put_totals.Goals as goal

in_turn : {A : Type 0} (a b c d : List A) → ((a ++ b) ++ c) ++ d ≡ a ++ (b ++ (c ++ d))
in_turn a b c d = append_assoc (a ++ b) c d ∙ append_assoc a b (c ++ d)

pub returns : goal.returns
unfolding totals_line line rest_of_line ascii
returns c =
    let x = c.args in
    let settled = ascii "settled " ++ decimal x.settled in
    let unsettled = ascii " unsettled " ++ decimal x.unsettled in
    let undone = ascii " undone " ++ decimal x.undone in
    let carried = line (ascii " carried" ∷ numbers (x.carried ∷ [])) in
    rw (in_turn settled unsettled undone carried) at
    (then (then (then c.put_labelled-at.ensures c.put_labelled-at-2.ensures) c.put_labelled-at-3.ensures) c.put_line.ensures)
