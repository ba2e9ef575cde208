-- `due::execute_all` meets its contract.
use native.Mathlib.Omega.{arith}
use Rattle.due.proofs.LoopLaws.{executing_to_start, execute_next, execute_quiet, execute_room, execute-replied, execute-end}
use Rattle.due.proofs.execute_all.Goals as goal

pub loop-at-init : goal.loop-at-init
loop-at-init c =
    executing_to_start _ c.requires.asks.invariant.counts.done c.requires.nothing_to_undo _ c.no_reply-replies.ensures

pub execute_at-next-requires : goal.execute_at-next-requires
execute_at-next-requires c =
    execute_next c.loop-at.invariant c.loop-at-test.true c.requires.asks.panel c.requires.asks.invariant

pub loop-at-preserved-then-next : goal.loop-at-preserved-then-next
loop-at-preserved-then-next c =
    execute_quiet c.loop-at.invariant c.loop-at-test.true
    c.execute_at-next.ensures c.if-next.true

pub bounds-replies-count : goal.bounds-replies-count
bounds-replies-count c =
    execute_room c.loop-at.invariant c.loop-at-test.true c.execute_at-next.ensures c.requires.asks.panel
    c.requires.asks.invariant c.if-next.false

pub offset_bounds-replies-count : goal.offset_bounds-replies-count
offset_bounds-replies-count c = omega (arith, bounds-replies-count c)

pub overflow_add-count : goal.overflow_add-count
overflow_add-count c =
    omega (
      arith,
      execute_room c.loop-at.invariant c.loop-at-test.true c.execute_at-next.ensures c.requires.asks.panel c.requires.asks.invariant
          c.if-next.false,
    )

pub loop-at-preserved : goal.loop-at-preserved
loop-at-preserved c =
    execute-replied c.loop-at.invariant c.loop-at-test.true c.execute_at-next.ensures
    c.if-next.false

pub returns : goal.returns
returns c = execute-end c.loop-at.invariant c.loop-at-test.false _ _ c.count_executions.ensures.held
