-- `writing::put_context` meets its contract: writing the words from the p-th on equals writing them all.
use mathlib.Core.List.{List}
use Prim.Native.Nat.{ℕ, ◌+◌, ◌-◌, ◌*◌}
use mathlib.Core.Path.{◌≡◌, refl, ap, ◌∙◌}
use native.Mathlib.Omega.{arith}
use borrow.Author.Rules.{rules}
use lib.ListN.{length, drop}
use lib.Seq.{sets}
use Rattle.numbers.specs.Numbers.{most_panels}
use Rattle.fields.specs.Widths.{word_width, size, weak_widths, encode}
use Rattle.fields.proofs.WidthLaws.{words_from, word_put}
use Rattle.fields.proofs.writing.put_context.Goals as goal

pub loop-p-init : goal.loop-p-init
loop-p-init c = (refl, refl)

pub loop-p-preserved : goal.loop-p-preserved
loop-p-preserved c =
    let l = c.loop-p in
    let words = c.args.context.words in
    let long : length words ≡ most_panels = search rules in
    let to = size weak_widths + word_width * l.p in
    let next : size weak_widths + word_width * (l.p + 1) ≡ to + word_width = omega arith in (
      c.put_integer.auto.out ∙ l.invariant.0,
      rw next
          (ap (λ (o : List ℕ). sets o (to + word_width) (encode (words_from (l.p + 1)) (drop (l.p + 1) words))) c.put_integer.ensures
          ∙ word_put l.p (omega arith) l.out words to (omega arith)
          ∙ l.invariant.1),
    )

pub returns : goal.returns
unfolding encode
returns c =
    let none : most_panels - c.loop-p.p ≡ 0 = omega arith in
    rw none at c.loop-p.invariant.1
