-- Laws of putting: the closing lines, and the whole printout.
use Prim.Native.Nat.{ℕ, suc, ◌+◌, ◌-◌, ◌≤◌, ◌<◌}
use mathlib.Core.Path.{◌≡◌, refl, sym, ap, ◌∙◌, subst}
use mathlib.Core.Bool.{Bool, true, false}
use mathlib.Core.List.{List, ◌++◌}
use native.Mathlib.Omega.{arith}
use lib.ListN.{length, get_or, length-append}
use borrow.Author.Tests.{lt-ltb, le-ltb}
use Rattle.request.specs.Operations.{last_register}
use Rattle.request.specs.Refusal as refused_by
use borrow.Rule.Slice.PartMut.{mid_of, put_mid}
use Rattle.text.specs.Written.{Written}
use Rattle.text.proofs.WrittenLaws.{then}
use Rattle.report.specs.Lines.{board_line, refused_line, totals_line, register_lines}
use Rattle.creek.specs.Calls.{Replica, bad_shop, fresh_refusal, fresh}
use Rattle.creek.specs.Showing.{undos_shown, executions_shown}
use Rattle.replica.specs.State.{State}
use Rattle.replica.specs.internal.Model.{model, Inv}
use Rattle.replica.specs.Shown.{registers_shown, committed_shown}
use Rattle.replica.proofs.ShowingLaws.{committed_are, requests_are, all_registers_are}
use Rattle.runs.specs.Found.{found_from}
use Rattle.printed.proofs.SizeLaws.{registers-count}
use Rattle.printed.specs.Printout.{after_all, message_lines, shop_bytes, closing, printout_of, printout}
use Rattle.message_lines.specs.LinesPut.{AllPut}
use Rattle.message_lines.proofs.LoopLaws.{undos_are}
use Rattle.sheet.specs.Putting.{ClosingPut}

-- ---- the closing lines

executions_are : (p : State) → p.counters.executions ≡ executions_shown (model p)
unfolding model
executions_are p = refl

closing_by : (r : Replica) (settled unsettled undone carried : ℕ) (values : List ℕ) → settled ≡ committed_shown r
    → unsettled ≡ length r.book.plan.tentative → undone ≡ undos_shown r → carried ≡ executions_shown r
    → values ≡ registers_shown r → closing r ≡ totals_line settled unsettled undone carried ++ register_lines values
unfolding closing
closing_by r settled unsettled undone carried values e f g h k = rw (e, f, g, h, k)

-- there are all registers
pub registers_all : (p : State) → Inv p → length p.registers ≡ suc last_register
registers_all p inv = ap length (all_registers_are p inv) ∙ registers-count (model p)

pub closing_is : (p : State) → Inv p
    → closing (model p)
    ≡ totals_line p.committed (p.ordered - p.committed) p.counters.undos p.counters.executions ++ register_lines p.registers
closing_is p inv =
    let plan = (model p).book.plan in
    let settled = committed_are p inv in
    let unsettled : p.ordered - p.committed ≡ length plan.tentative =
    omega (arith, settled, requests_are p inv, length-append plan.committed plan.tentative) in
    closing_by (model p) _ _ _ _ _ settled unsettled (undos_are p) (executions_are p) (all_registers_are p inv)

-- ---- the whole printout

pub printout_short : (s : List ℕ) → length s < shop_bytes → printout s ≡ refused_line refused_by.cut_short
unfolding printout
printout_short s h = rw (lt-ltb (length s) shop_bytes h)

pub printout_bad : (s : List ℕ) → shop_bytes ≤ length s → bad_shop (get_or s 0 0) (get_or s 1 0) ≡ true
    → printout s ≡ refused_line refused_by.bad_shop
unfolding printout
printout_bad s h e = rw (le-ltb (length s) shop_bytes h, e)

printout_good : (s : List ℕ) → shop_bytes ≤ length s → bad_shop (get_or s 0 0) (get_or s 1 0) ≡ false
    → printout s ≡ board_line (get_or s 0 0) (get_or s 1 0)
    ++ (message_lines 1 (fresh (get_or s 0 0) (get_or s 1 0)) (found_from s shop_bytes)
    ++ closing (after_all (fresh (get_or s 0 0) (get_or s 1 0)) (found_from s shop_bytes)))
unfolding printout printout_of
printout_good s h e = rw (le-ltb (length s) shop_bytes h, e)

-- by the number of fresh's outcome
fresh_by : (panels own w : ℕ) (v : Bool) → bad_shop panels own ≡ v → w ≡ fresh_refusal panels own → (w ≡ refused_by.accepted → ⊥)
    → (v ≡ true) × (w ≡ refused_by.bad_shop)
unfolding fresh_refusal
fresh_by panels own w true e f h = (refl, f ∙ rw e)
fresh_by panels own w false e f h = absurd (h (f ∙ rw e))

pub fresh_bad : (panels own w : ℕ) → w ≡ fresh_refusal panels own → (w ≡ refused_by.accepted → ⊥)
    → (bad_shop panels own ≡ true) × (w ≡ refused_by.bad_shop)
fresh_bad panels own w f h = fresh_by panels own w (bad_shop panels own) refl f h

opened_by_lem : (panels own : ℕ) (v : Bool) → bad_shop panels own ≡ v → refused_by.accepted ≡ fresh_refusal panels own → v ≡ false
unfolding fresh_refusal
opened_by_lem panels own true e f =
    let bad : fresh_refusal panels own ≡ refused_by.bad_shop = rw e in
    absurd (omega (arith, f, bad))
opened_by_lem panels own false e f = refl

pub fresh_good : (panels own : ℕ) → refused_by.accepted ≡ fresh_refusal panels own → bad_shop panels own ≡ false
fresh_good panels own f = opened_by_lem panels own (bad_shop panels own) refl f

-- the lines of a shift, from those of its messages and the closing lines
pub shift_put : {s out out₁ new : List ℕ} {at n : ℕ} {p q : State} → AllPut p s out q out₁ at
    → ClosingPut q (mid_of at (length out₁ - at) out₁) new n
    → Written out (message_lines 1 (model p) (found_from s shop_bytes) ++ closing (after_all (model p) (found_from s shop_bytes)))
    (put_mid at (length out₁ - at) out₁ new) (at + n)
shift_put {out₁ = out₁} {new = new} {at = at} {n = n} {q = q} put last =
    let closes = sym (closing_is q put.invariant) ∙ ap closing put.state in
    then put.lines (subst (λ (text : List ℕ). Written (mid_of at (length out₁ - at) out₁) text new n) closes last.written)

-- a good shop's printout: the board's line, and the lines of the shift that fresh begins
pub printed : (s : List ℕ) {out out₁ new : List ℕ} {at n : ℕ} {r : Replica} → shop_bytes ≤ length s
    → bad_shop (get_or s 0 0) (get_or s 1 0) ≡ false → r ≡ fresh (get_or s 0 0) (get_or s 1 0)
    → Written out (board_line (get_or s 0 0) (get_or s 1 0)) out₁ at
    → Written (mid_of at (length out₁ - at) out₁)
    (message_lines 1 r (found_from s shop_bytes) ++ closing (after_all r (found_from s shop_bytes))) new n
    → Written out (printout s) (put_mid at (length out₁ - at) out₁ new) (at + n)
printed s {out₁ = out₁} {new = new} {at = at} {n = n} h good opened first shift =
    let found = found_from s shop_bytes in
    let part = mid_of at (length out₁ - at) out₁ in
    let lines = subst (λ (x : Replica). Written part (message_lines 1 x found ++ closing (after_all x found)) new n) opened shift in
    rw (printout_good s h good) (then first lines)
