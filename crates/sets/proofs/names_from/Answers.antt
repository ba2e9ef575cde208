-- `sets::names_from` meets its contract: some word behind the first ones is not 0 where not all of them are.
use borrow.Author.Rules.{rules}
use mathlib.Core.Path.{◌∙◌}
use Rattle.std.proofs.Common.{tests}
use Rattle.std.proofs.lemmas.Iterator.{YieldsList-from_slice}
use Rattle.std.proofs.lemmas.Iterator.Adapters.{YieldsList-from_skip}
use Rattle.std.proofs.lemmas.Iterator.Search.{any_from_yields_List}
use Rattle.sets.specs.Sets.{names_from}
use Rattle.sets.proofs.WordLaws.{nonzero, some-nonzero}
use Rattle.sets.proofs.names_from.Goals as goal

pub returns : goal.returns
unfolding names_from
returns c =
    any_from_yields_List nonzero _ _ _ c.any.ensures.ran (YieldsList-from_skip c.args.panels (YieldsList-from_slice c.args.s.words cc) cc)
    (λ x b q k. search (rules, tests))
    ∙ some-nonzero _
