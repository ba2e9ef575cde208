-- `writer::weak_with_context` meets its contract: the parts of a request are values of their types.
use Prim.Native.Nat.{ℕ, ◌^◌, ◌<◌}
use lib.ListN.{get_or}
use borrow.Author.Rules.{rules}
use Rattle.numbers.specs.Numbers.{most_events}
use Rattle.wire.specs.Message.{weak_with_context}
use Rattle.wire.proofs.MessageLaws.{Held, request_fits}
use Rattle.writer.proofs.weak_with_context.Goals as goal
use Rattle.writer.proofs.weak_with_context.Goals.{Start}

held : (c : Start) → Held c.args.r
held c =
    let small : (p : ℕ) → get_or c.args.r.context.words p 0 < 2 ^ most_events = search rules in
    record {
      panel = search rules;
      event = search rules;
      clock = search rules;
      code = search rules;
      first = search rules;
      second = search rules;
      amount = search rules;
      words = record { count = search rules; small = small };
    }

pub returns-then-not-r : goal.returns-then-not-r
unfolding weak_with_context
returns-then-not-r c = record {
  tells = search rules;
  fits = request_fits _ (held (goal.at.returns-then-not-r c).Start);
}

pub returns-else-not-r : goal.returns-else-not-r
unfolding weak_with_context
returns-else-not-r c = record {
  tells = search rules;
  fits = request_fits _ (held (goal.at.returns-else-not-r c).Start);
}
