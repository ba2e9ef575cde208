-- `request_at` meets its contract: each part is what is kept of it.
use lib.ListN.{get_or}
use Rattle.store.specs.Requests.{request_at}
use Rattle.store.proofs.requests.request_at.Goals as goal

pub returns : goal.returns
unfolding request_at
returns c =
    let a = c.args in
    λ i. record {
      number = c.number_of-number.ensures i;
      clock = record { 0 = get_or a.clocks.now a.slot 0 };
      asked = c.asked_at-asked.ensures i;
      context = c.context_at-context.ensures i;
    }
