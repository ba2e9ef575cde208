-- `Kind::most_run` meets its contract: no kind has a run.
use mathlib.Core.Path.{◌≡◌, refl}
use Rattle.wire.specs.declared.Kind.{Kind}
use Rattle.wire.specs.declared.Kind.TheVariants.{Weak, Strong, Settlement}
use Rattle.wire.specs.Layout.{layout}
use Rattle.wire.proofs.Kind.most_run.Goals as goal

no_run : (k : Kind) → 0 ≡ (layout k).most_run
unfolding layout
no_run Weak = refl
no_run Strong = refl
no_run Settlement = refl

pub returns : goal.returns
returns c = no_run c.args.self
