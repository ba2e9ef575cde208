-- `put_words` meets its contract: storing the words that are left gives them all.
use Prim.Native.Nat.{ℕ, ◌+◌, ◌*◌}
use native.Mathlib.Omega.{arith}
use mathlib.Core.Path.{◌≡◌, sym, ap, ◌∙◌}
use mathlib.Core.List.{[]}
use lib.ListN.{length, drop, drop_of_length-le}
use lib.Seq.{sets}
use borrow.Author.Rules.{rules}
use Rattle.numbers.specs.Numbers.{most_panels}
use Rattle.store.proofs.SliceLaws.{store_on}
use Rattle.store.proofs.requests.put_words.Goals as goal
use Rattle.store.proofs.requests.put_words.Goals.{Start}

-- the type of the context's array says how many words there are
count : (c : Start) → length c.args.words.now ≡ most_panels
count c = search rules

pub loop-i-init : goal.loop-i-init
loop-i-init c =
    let at = most_panels * c.args.slot in
    let first : at + 0 ≡ at = omega arith in
    (omega arith, ap (λ (k : ℕ). sets c.args.contexts.now k c.args.words.now) first)

pub loop-i-preserved : goal.loop-i-preserved
loop-i-preserved c =
    let v = c.loop-i in
    let more = store_on (most_panels * c.args.slot) v.i v.contexts c.args.words.now (omega (arith, count (goal.at.loop-i-preserved c).Start)) in
    (omega arith, more ∙ v.invariant.1)

pub returns : goal.returns
returns c =
    let v = c.loop-i in
    let none : drop v.i c.args.words.now ≡ [] = drop_of_length-le c.args.words.now {i = v.i} (omega (arith, count (goal.at.returns c).Start)) in
    ap (sets v.contexts (most_panels * c.args.slot + v.i)) (sym none) ∙ v.invariant.1
