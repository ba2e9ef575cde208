-- `writer::write_settlement` meets its contract: refused, or written.
use mathlib.Core.Bool.{false}
use mathlib.Core.Path.{◌≡◌, refl, sym, ◌∙◌}
use native.Mathlib.Omega.{arith}
use borrow.Author.Rules.{rules}
use Rattle.numbers.specs.declared.Number.{Number}
use Rattle.wire.specs.declared.Message.TheVariants.{Settlement as settlement}
use Rattle.wire.specs.Message.{Fits, kind_of, size_of, weak_with_context}
use Rattle.wire.proofs.MessageLaws.{runless-size, settlement_fits}
use Rattle.wire.proofs.WriterLaws.{size_least, room-refused, written, bytes_put, message_put, settlement_put}
use Rattle.writer.proofs.write_settlement.Goals as goal
use Rattle.writer.proofs.write_settlement.Goals.{After-least_size-least}

sendable : (n : Number) → weak_with_context (settlement n) ≡ false
unfolding weak_with_context
sendable n = refl

-- the size is the message's
sized : (c : After-least_size-least) → c.least_size-least.result ≡ size_of (settlement c.args.n)
unfolding kind_of
sized c = c.least_size-least.ensures ∙ sym (runless-size (settlement c.args.n))

fitting : (c : After-least_size-least) → Fits (settlement c.args.n)
fitting c = settlement_fits _ (record { panel = search rules; event = search rules })

pub returns-then-out-least : goal.returns-then-out-least
returns-then-out-least c =
    let here = (goal.at.returns-then-out-least c).After-least_size-least in
    let k = room-refused (settlement c.args.n) c.args.out.now (sendable c.args.n) (rw (sized here) at c.if-out-least.true) in
    record { answer = sym k.0; after = sym k.1; fits = fitting here }

pub put_head-requires : goal.put_head-requires
put_head-requires c =
    omega (arith, size_least (settlement c.args.n), sized (goal.at.put_head-requires c).After-least_size-least)

pub put_number-requires : goal.put_number-requires
put_number-requires c =
    omega (arith, size_least (settlement c.args.n), sized (goal.at.put_number-requires c).After-least_size-least, c.put_head.auto.out)

pub returns : goal.returns
unfolding kind_of
returns c =
    let here = (goal.at.returns c).After-least_size-least in
    let size = sized here in
    let fits = fitting here in
    let room = rw size at c.if-out-least.false in
    let k = written (settlement c.args.n) c.args.out.now (sendable c.args.n) room in
    let put = message_put (settlement c.args.n) c.args.out.now c.put_head.new.out _ (rw size at c.put_head.ensures)
    (settlement_put _ _ _ c.put_number.ensures) in
    record {
      answer = rw size (sym k.0);
      after = put ∙ bytes_put (settlement c.args.n) c.args.out.now fits room ∙ sym k.1;
      fits = fits;
    }
