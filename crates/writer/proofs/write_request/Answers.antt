-- `writer::write_request` meets its contract: refused, or written.
use mathlib.Core.Path.{◌≡◌, sym, ap, ◌∙◌}
use native.Mathlib.Omega.{arith}
use Rattle.wire.specs.declared.Message.TheVariants.{Request as request}
use Rattle.wire.specs.Layout.{least_size}
use Rattle.wire.specs.Message.{size_of}
use Rattle.wire.proofs.MessageLaws.{runless-size}
use Rattle.wire.proofs.WriterLaws.{size_least, context-refused, room-refused, written, bytes_put, message_put}
use Rattle.writer.proofs.write_request.Goals as goal
use Rattle.writer.proofs.write_request.Goals.{After-least_size-size}

-- the size is the message's
sized : (c : After-least_size-size) → c.least_size-size.result ≡ size_of (request c.args.r)
sized c = c.least_size-size.ensures ∙ ap least_size c.kind-kind.ensures ∙ sym (runless-size _)

pub returns-then-weak_with_context : goal.returns-then-weak_with_context
returns-then-weak_with_context c =
    let w = c.weak_with_context.ensures in
    let k = context-refused (request c.args.r) c.args.out.now (sym w.tells ∙ c.if-weak_with_context.true) in
    record { answer = sym k.0; after = sym k.1; fits = w.fits }

pub returns-then-out-size : goal.returns-then-out-size
returns-then-out-size c =
    let w = c.weak_with_context.ensures in
    let short = rw (sized (goal.at.returns-then-out-size c).After-least_size-size) at c.if-out-size.true in
    let k = room-refused (request c.args.r) c.args.out.now (sym w.tells ∙ c.if-weak_with_context.false) short in
    record { answer = sym k.0; after = sym k.1; fits = w.fits }

pub put_head-requires : goal.put_head-requires
put_head-requires c =
    omega (arith, size_least (request c.args.r), sized (goal.at.put_head-requires c).After-least_size-size)

pub put_request-requires : goal.put_request-requires
put_request-requires c = omega (arith, sized (goal.at.put_request-requires c).After-least_size-size, c.put_head.auto.out)

pub returns : goal.returns
returns c =
    let w = c.weak_with_context.ensures in
    let size = sized (goal.at.returns c).After-least_size-size in
    let room = rw size at c.if-out-size.false in
    let k = written (request c.args.r) c.args.out.now (sym w.tells ∙ c.if-weak_with_context.false) room in
    let put = message_put (request c.args.r) c.args.out.now c.put_head.new.out _ (rw (size, c.kind-kind.ensures) at c.put_head.ensures)
    c.put_request.ensures in
    record {
      answer = rw size (sym k.0);
      after = put ∙ bytes_put (request c.args.r) c.args.out.now w.fits room ∙ sym k.1;
      fits = w.fits;
    }
