-- `Reader::next_message` meets its contract: the reader's place stays below what a usize holds.
use Rattle.std.proofs.Common.{◌<◌, ◌^◌, length, rules, arith, sym, ap, ◌∙◌, Ok}
use Rattle.wire.specs.Reader.{outcome_of, taken_of}
use Rattle.bus.proofs.PlaceLaws.{place_fits}
use Rattle.bus.proofs.Reader.next_message.Goals as goal

pub overflow_add-self : goal.overflow_add-self
overflow_add-self c =
    let place : c.args.self.now.at < 2 ^ 64 = search rules in
    let short : length c.args.self.now.bytes.now < 2 ^ 64 = search rules in
    let found = c.in-Ok-Some.is ∙ ap Ok (rw c.in-Ok-Some.is at c.in-Ok-Some.field-0-is) in
    let taken = ap taken_of (sym c.read-read.ensures ∙ ap outcome_of found) in
    record { fits = omega (arith, taken, place_fits c.args.self.now.bytes.now c.args.self.now.at (2 ^ 64) place short) }
