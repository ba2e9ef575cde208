-- `reading::words_at` meets its contract: reading the words from the p-th on equals reading them all.
use Prim.Native.Nat.{◌+◌, ◌*◌}
use mathlib.Core.Path.{◌≡◌}
use lib.ListN.{length}
use lib.Seq.{sets}
use Rattle.numbers.specs.Numbers.{most_panels}
use Rattle.fields.specs.Widths.{word_width, context_widths, decode}
use Rattle.fields.proofs.WidthLaws.{words_from}
use Rattle.fields.proofs.reading.words_at.Given as goal

abbrev pub invariant-loop-p : goal.invariant-loop-p
invariant-loop-p l =
    (length l.words ≡ most_panels)
    × (sets l.words l.p (decode (words_from l.p) l.s (l.from + word_width * l.p)) ≡ decode context_widths l.s l.from)
