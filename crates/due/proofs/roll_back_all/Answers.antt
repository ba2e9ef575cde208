-- `due::roll_back_all` meets its contract.
use Rattle.due.proofs.LoopLaws.{rolling_to_start, roll_top, roll_on, roll_end}
use Rattle.due.proofs.roll_back_all.Goals as goal

pub loop-left-init : goal.loop-left-init
loop-left-init c = rolling_to_start _ c.requires.asks.invariant.counts.executed

pub take_off-requires : goal.take_off-requires
take_off-requires c = roll_top c.loop-left.invariant c.loop-left-test.true c.requires.asks.panel c.requires.asks.invariant

pub loop-left-preserved : goal.loop-left-preserved
loop-left-preserved c = roll_on c.loop-left.invariant c.loop-left-test.true c.take_off.ensures

pub returns-clause-back : goal.returns-clause-back
returns-clause-back c = roll_end c.loop-left.invariant c.loop-left-test.false _ c.count_undos.ensures.held
