-- `entering::enter` meets its contract.
use mathlib.Core.Path.{refl}
use Rattle.replica.specs.Uses.{entering_uses}
use Rattle.replica.specs.Memory.{memory}
use Rattle.entering.proofs.EnteringLaws.{slot_is, insertion_asks, entered_by}
use Rattle.entering.proofs.enter.Goals as goal

pub insert_at-requires : goal.insert_at-requires
insert_at-requires c = insertion_asks _ _ c.requires.invariant c.requires.enters _ _ c.requires.its_slot c.requires.its_place

pub put_request-requires : goal.put_request-requires
put_request-requires c =
    let asks = c.requires in
    (rw asks.its_slot (slot_is _ _ asks.invariant asks.enters), asks.invariant.lengths.requests, asks.words)

pub returns : goal.returns
returns c =
    record {
      kept = λ r inv enters place awaiting events clock.
          entered_by (memory (entering_uses c.args.p.now r)) c.args.x.now inv enters c.args.slot c.args.at c.requires.its_slot place
          c.insert_at.new.xs c.insert_at.ensures c.put_request.ensures c.join_at.ensures c.know.ensures c.min-p.ensures
          awaiting events clock;
      awaiting = refl;
      spare = refl;
      others = refl;
    }
