-- `writer::put_request` meets its contract, part by part.
use native.Mathlib.Omega.{arith}
use Rattle.wire.proofs.WriterLaws.{request_size, strong-size, weak_put, strong_put}
use Rattle.writer.proofs.put_request.Goals as goal

pub put_number-requires : goal.put_number-requires
put_number-requires c = omega (arith, request_size c.args.r)

pub put_body-requires : goal.put_body-requires
put_body-requires c = omega (arith, request_size c.args.r, c.put_number.auto.out)

pub put_context-requires : goal.put_context-requires
put_context-requires c = omega (arith, strong-size c.args.r c.if-r.true, c.put_number.auto.out, c.put_body.auto.out)

pub returns-then-r : goal.returns-then-r
returns-then-r c =
    strong_put c.args.r _ _ _ c.put_number.ensures c.put_body.ensures _ c.if-r.true c.put_context.ensures

pub returns-else-r : goal.returns-else-r
returns-else-r c = weak_put c.args.r _ _ _ c.put_number.ensures c.put_body.ensures c.if-r.false
