-- `reading::words_at` meets its contract: reading the words from the p-th on equals reading them all.
use Prim.Native.Nat.{◌+◌, ◌-◌, ◌*◌}
use mathlib.Core.Path.{◌≡◌, sym, ◌∙◌}
use native.Mathlib.Nat.{add-zero}
use native.Mathlib.Omega.{arith}
use lib.ListN.{length-set}
use Rattle.lists.proofs.PlaceLaws.{sets_all}
use Rattle.numbers.specs.Numbers.{most_panels}
use Rattle.fields.specs.Widths.{word_width, context_widths, decode}
use Rattle.fields.proofs.WidthLaws.{length-decode, word_read}
use Rattle.fields.proofs.reading.words_at.Goals as goal

pub loop-p-init : goal.loop-p-init
loop-p-init c =
    let long = c.requires.0 in
    (long, rw add-zero (sets_all _ _ (length-decode context_widths _ _ ∙ sym long)))

pub loop-p-preserved : goal.loop-p-preserved
loop-p-preserved c =
    let l = c.loop-p in
    let at = c.args.from + word_width * l.p in
    let next : c.args.from + word_width * (l.p + 1) ≡ at + word_width = omega arith in (
      simp length-set l.invariant.0,
      rw next (word_read l.p (omega arith) l.words _ at _ c.word_at.ensures ∙ l.invariant.1),
    )

pub returns : goal.returns
unfolding decode
returns c =
    let none : most_panels - c.loop-p.p ≡ 0 = omega arith in
    rw none at c.loop-p.invariant.1
