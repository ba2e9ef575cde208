-- `writing::put_context` meets its contract: writing the words from the p-th on equals writing them all.
use Prim.Native.Nat.{◌+◌, ◌*◌}
use mathlib.Core.Path.{◌≡◌}
use lib.ListN.{length, drop}
use lib.Seq.{sets}
use Rattle.fields.specs.Widths.{word_width, context_widths, size, encode, weak_widths}
use Rattle.fields.proofs.WidthLaws.{words_from}
use Rattle.fields.proofs.writing.put_context.Given as goal

abbrev pub invariant-loop-p : goal.invariant-loop-p
invariant-loop-p l =
    (length l.out ≡ length l.initial.out)
    × (sets l.out (size weak_widths + word_width * l.p) (encode (words_from l.p) (drop l.p l.word-items)) ≡ sets l.initial.out (size weak_widths) (encode context_widths l.word-items))
