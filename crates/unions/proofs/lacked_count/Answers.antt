-- `unions::lacked_count` meets its contract: the sum of what each word lacks is how many numbers the set does.
use native.Mathlib.Omega.{arith}
use borrow.Author.Rules.{rules}
use mathlib.Core.Path.{◌≡◌, ◌∙◌}
use lib.ListN.{length}
use Rattle.std.proofs.Common.{tests}
use Rattle.std.specs.List.{zip}
use Rattle.std.proofs.lemmas.Iterator.{YieldsList-from_slice, YieldsList-from_zip, YieldsList-from_map}
use Rattle.std.proofs.lemmas.Iterator.Consumers.{YieldsList-at, sum_by_from_yields_List, fits_by_from_yields_list}
use Rattle.unions.proofs.LackedLaws.{lacked_of, lacked_in_all, lacked-few}
use Rattle.unions.proofs.lacked_count.Goals as goal

pub sum-requires-clause-fits : goal.sum-requires-clause-fits
sum-requires-clause-fits c =
    let words = c.args.words.now in
    let others = c.args.others.now in
    let long : length words ≡ 8 = search rules in
    let others_long : length others ≡ 8 = search rules in
    fits_by_from_yields_list lacked_of (zip words others) c.map.result _
    (YieldsList-from_map _ lacked_of
    (YieldsList-at c.map.ensures.source (YieldsList-from_zip (YieldsList-from_slice words cc) (YieldsList-from_slice others cc)))
    c.map.ensures.closure (λ x r q k. search (rules, tests)))
    (omega (arith, lacked_in_all words others long others_long, lacked-few words others))

pub returns : goal.returns
returns c =
    let words = c.args.words.now in
    let others = c.args.others.now in
    let long : length words ≡ 8 = search rules in
    let others_long : length others ≡ 8 = search rules in
    sum_by_from_yields_List lacked_of (zip words others) c.map.result _ c.sum.ensures.ran
    (YieldsList-from_map _ lacked_of
    (YieldsList-at c.map.ensures.source (YieldsList-from_zip (YieldsList-from_slice words cc) (YieldsList-from_slice others cc)))
    c.map.ensures.closure (λ x r q k. search (rules, tests)))
    ∙ lacked_in_all words others long others_long
