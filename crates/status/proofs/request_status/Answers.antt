-- `status::request_status` meets its contract: each answer is the status by the tests passed.
use native.Mathlib.Omega.{arith}
use Prim.Native.Nat.{◌<◌}
use mathlib.Core.Path.{sym, ◌∙◌}
use borrow.Author.Tests.{lt-ltb, le-ltb}
use Rattle.replica.specs.Memory.{memory}
use Rattle.status.specs.Status.{status_uses}
use Rattle.status.proofs.StatusLaws.{status_bad, status_not_here, found_inside, status_held}
use Rattle.status.proofs.request_status.Goals as goal
use Rattle.status.proofs.request_status.Goals.{After-before-before, then-executed, else-executed}

inside : (c : After-before-before) → c.before-before.result < c.args.p.now.ordered
inside c =
    found_inside (memory (status_uses c.args.p.now c.requires.panel)) c.requires.invariant c.args.n
    (sym c.bad.ensures ∙ c.if-bad.false) (sym c.member.ensures ∙ c.if-not-member.false) c.slot_of.ensures
    c.before-before.ensures

pub returns-then-bad : goal.returns-then-bad
returns-then-bad c =
    record { shown = λ o inv. rw c.refusing.ensures (status_bad _ inv _ (sym c.bad.ensures ∙ c.if-bad.true)) }

pub returns-then-not-member : goal.returns-then-not-member
returns-then-not-member c = record {
  shown = λ o inv.
      rw c.refusing-then-not-member.ensures
      (status_not_here _ inv _ (sym c.bad.ensures ∙ c.if-bad.false) (sym c.member.ensures ∙ c.if-not-member.true));
}

pub overflow_cast-result : goal.overflow_cast-result
overflow_cast-result c =
    omega (arith, inside (goal.at.overflow_cast-result c).After-before-before, c.requires.invariant.counts)

pub overflow_add-result : goal.overflow_add-result
overflow_add-result c =
    omega (arith, inside (goal.at.overflow_add-result c).After-before-before, c.requires.invariant.counts)

pub returns : goal.returns
returns c = record {
  shown = λ o inv.
      status_held (memory (status_uses c.args.p.now o)) inv c.args.n (sym c.bad.ensures ∙ c.if-bad.false)
      (sym c.member.ensures ∙ c.if-not-member.false) c.slot_of.ensures c.before-before.ensures c.member-2.ensures
      (elim c.if-executed.branch [
        | then-executed w ↦ rw (lt-ltb _ _ w.if-executed.true) w.response-is
        | else-executed w ↦ rw (le-ltb _ _ w.if-executed.false) w.response-is
      ]);
}
