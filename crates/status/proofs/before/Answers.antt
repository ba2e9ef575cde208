-- `status::before` meets its contract.
use mathlib.Core.Path.{sym, ap, ◌∙◌}
use lib.Seq.{length-take-le}
use lib.Dec.{eqb}
use native.Mathlib.Omega.{arith}
use Rattle.std.specs.Prelude.{position, take}
use Rattle.std.specs.Option.{unwrap_or}
use Rattle.status.proofs.LeadingLaws.{place_or_length}
use Rattle.status.proofs.before.Goals as goal

pub returns : goal.returns
returns c =
    let front = take c.args.n c.args.order.now in
    let passes = eqb c.args.slot in
    rw (c.unwrap_or.ensures, c.place_in.ensures)
    (ap (unwrap_or (position passes front)) (sym (length-take-le c.args.n c.args.order.now (omega (arith, c.requires))))
    ∙ place_or_length passes front)
