-- `put_registers` meets its contract.
use Prim.Native.Nat.{◌≤◌}
use native.Mathlib.Omega.{arith}
use lib.ListN.{length}
use Rattle.report.specs.Lines.{register_lines}
use Rattle.report.specs.Sizes.{most_registers_bytes}
use Rattle.report.proofs.SizeLaws.{registers_short}
use Rattle.sheet.proofs.put_registers.Goals as goal

pub put_registers-requires : goal.put_registers-requires
put_registers-requires c =
    let short = registers_short _ c.requires.all (λ k. omega (arith, c.type_inv.registers k)) in
    record { fits = omega (arith, c.requires.most_registers_bytes_in_bounds, short) }

pub returns : goal.returns
returns c =
    let short = registers_short _ c.requires.all (λ k. omega (arith, c.type_inv.registers k)) in
    record { written = c.put_registers.ensures; few = omega (arith, c.put_registers.ensures.count, short) }
