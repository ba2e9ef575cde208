-- `put_registers` meets its contract by the laws of a text that is put piece by piece.
use native.Mathlib.Omega.{arith}
use Rattle.text.proofs.WrittenLaws.{left_start, left_room, left_step, left_end}
use Rattle.report.specs.Lines.{register_lines}
use Rattle.report.proofs.RegisterLaws.{registers_on, registers-end}
use Rattle.report.proofs.put_registers.Goals as goal

pub loop-i-init : goal.loop-i-init
unfolding register_lines
loop-i-init c = left_start _ _

pub put_register-at-requires : goal.put_register-at-requires
put_register-at-requires c =
    let l = c.loop-i in
    left_room _ _ c.requires (rw (registers_on c.args.registers.now l.i (omega arith)) at l.invariant)

pub loop-i-preserved : goal.loop-i-preserved
loop-i-preserved c =
    let l = c.loop-i in
    left_step _ c.requires c.put_register-at.ensures (rw (registers_on c.args.registers.now l.i (omega arith)) at l.invariant)

pub returns : goal.returns
returns c =
    let l = c.loop-i in
    left_end (rw (registers-end c.args.registers.now l.i (omega arith)) at l.invariant)
