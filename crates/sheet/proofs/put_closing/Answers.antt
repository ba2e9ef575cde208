-- `put_closing` meets its contract.
use Prim.Native.Nat.{◌-◌, ◌<◌, ◌≤◌, ◌^◌}
use native.Mathlib.Omega.{arith}
use lib.ListN.{length}
use Rattle.text.proofs.WrittenLaws.{then, mid_long}
use Rattle.report.specs.Lines.{totals_line}
use Rattle.report.specs.Sizes.{most_totals_bytes}
use Rattle.report.proofs.SizeLaws.{totals_short}
use Rattle.replica.proofs.BoundLaws.{undos_fit, executions_fit}
use Rattle.sheet.proofs.PuttingLaws.{registers_all}
use Rattle.sheet.proofs.put_closing.Goals as goal
use Rattle.sheet.proofs.put_closing.Goals.{Start}

totals_fit : (c : Start) → let p = c.args.p.now in
    length (totals_line p.committed (p.ordered - p.committed) p.counters.undos p.counters.executions) ≤ most_totals_bytes
totals_fit c =
    let inv = c.requires.inv in
    totals_short _ _ _ _ (omega (arith, inv.counts)) (omega (arith, inv.counts)) (omega (arith, undos_fit _ inv)) (omega (arith, executions_fit _ inv))

pub put_totals-at-requires : goal.put_totals-at-requires
put_totals-at-requires c =
    record { fits = omega (arith, c.requires.most_registers_bytes_in_bounds, totals_fit (goal.at.put_totals-at-requires c).Start) }

pub put_registers-requires : goal.put_registers-requires
put_registers-requires c =
    let first = c.put_totals-at.ensures in
    let totals = totals_fit (goal.at.put_registers-requires c).Start in
    record {
      all = registers_all _ c.requires.inv;
      most_registers_bytes_in_bounds = omega (arith, c.requires.most_registers_bytes_in_bounds, first.count, mid_long c.put_totals-at.result c.put_totals-at.new.out, c.put_totals-at.auto.out, totals);
    }

pub returns : goal.returns
returns c =
    let first = c.put_totals-at.ensures in
    let second = c.put_registers.ensures in
    record { written = then first second.written; few = omega (arith, first.count, second.few, totals_fit (goal.at.returns c).Start) }
