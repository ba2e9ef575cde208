-- `end_line` meets its contract by the laws of a text that is put piece by piece.
use Rattle.std.proofs.Common.{[], arith}
use Rattle.text.proofs.WrittenLaws.{left_room, left_step, left_end}
use Rattle.text.proofs.LineLaws.{rest_on, rest_end}
use Rattle.text.proofs.end_line.Goals as goal

pub put_labelled-at-requires : goal.put_labelled-at-requires
put_labelled-at-requires c =
    let l = c.loop-n in
    left_room _ _ c.requires (rw (rest_on c.args.ns.now l.n-index (omega arith)) at l.invariant)

pub loop-n-preserved : goal.loop-n-preserved
loop-n-preserved c =
    let l = c.loop-n in
    left_step _ c.requires c.put_labelled-at.ensures (rw (rest_on c.args.ns.now l.n-index (omega arith)) at l.invariant)

pub put_bytes-requires : goal.put_bytes-requires
put_bytes-requires c =
    let l = c.loop-n in
    left_room _ [] c.requires (rw (rest_end c.args.ns.now l.n-index (omega arith)) at l.invariant)

pub returns : goal.returns
returns c =
    let l = c.loop-n in
    left_end (left_step [] c.requires c.put_bytes.ensures (rw (rest_end c.args.ns.now l.n-index (omega arith)) at l.invariant))
