-- `put_messages` meets its contract.
use Prim.Native.Nat.{◌+◌, ◌≤◌, ◌<◌, ◌^◌}
use native.Mathlib.Omega.{arith}
use mathlib.Core.Path.{refl, ◌∙◌}
use lib.ListN.{length}
use borrow.Author.Rules.{rules}
use Rattle.text.proofs.WrittenLaws.{mid_long}
use Rattle.report.specs.Sizes.{most_message_bytes}
use Rattle.report.proofs.SizeLaws.{unread_short}
use Rattle.wire.specs.Layout.{least_message}
use Rattle.wire.specs.Reader.{read_at}
use Rattle.replica.specs.Memory.{memory}
use Rattle.intake.specs.Intake.{Received}
use Rattle.intake.proofs.IntakeLaws.{received_here}
use Rattle.printed.specs.Printout.{most_input}
use Rattle.message_lines.proofs.LoopLaws.{put_start, line_room, put_last, within, put_step, put-end}
use Rattle.message_lines.proofs.put_messages.Goals as goal
use Rattle.message_lines.proofs.put_messages.Goals.{After-receive-receipt, Else-taken-eq0, In-loop-at}

pub loop-at-init : goal.loop-at-init
loop-at-init c = (put_start _ _ _ c.requires.inv c.requires.shop_bytes_in_bounds, refl)

-- ---- the turn

pub receive-receipt-requires : goal.receive-receipt-requires
receive-receipt-requires c = record { panel = c.loop-at.p; invariant = c.loop-at.invariant.0.invariant }

-- what receiving the message did
got : (c : After-receive-receipt) → let l = c.loop-at in
    Received (memory l.p) (read_at c.args.input.now l.at) c.receive-receipt.result (memory c.receive-receipt.new.p)
got c = received_here _ c.receive-receipt.ensures c.loop-at.invariant.0.invariant

-- there is room for a line, and its place is one of few
room : (c : In-loop-at) → let l = c.loop-at in
    (l.behind + most_message_bytes ≤ length l.out) × (l.place ≤ most_input)
room c =
    line_room c.loop-at.invariant.0 c.loop-at-test.true c.requires.most_message_bytes_in_bounds c.requires.input_len_bound

-- ---- what cannot be read

-- what the type says
small : (c : After-receive-receipt) → c.receive-receipt.result.reply.refusal < 2 ^ 8
small c = search rules

pub put_unread-requires : goal.put_unread-requires
put_unread-requires c =
    let t = goal.at.put_unread-requires c in
    let fits = room t.In-loop-at in
    let short = unread_short c.loop-at.place c.receive-receipt.result.reply.refusal (omega (arith, fits.1)) (small t.After-receive-receipt) in
    record { fits = omega (arith, fits.0, short) }

pub returns-then-taken-eq0 : goal.returns-then-taken-eq0
returns-then-taken-eq0 c =
    let put = c.loop-at.invariant in (
      put_last put.0 c.loop-at-test.true (got (goal.at.returns-then-taken-eq0 c).After-receive-receipt) c.if-taken-eq0.true c.requires.input_len_bound
          (small (goal.at.returns-then-taken-eq0 c).After-receive-receipt) c.requires.most_message_bytes_in_bounds c.put_unread.ensures,
      c.receive-receipt.ensures.spare ∙ put.1,
    )

-- ---- a message

-- it lies within the bytes
inside : (c : Else-taken-eq0) →
    let at = c.loop-at.at in
    let size = length c.args.input.now in
    let n = c.receive-receipt.result.taken in
    (at + least_message ≤ size) × (least_message ≤ n) × (at + n ≤ size)
inside c =
    let put = c.loop-at.invariant.0 in
    within put c.loop-at-test.true (received_here _ c.receive-receipt.ensures put.invariant) c.if-taken-eq0.false

pub idle-undone-requires : goal.idle-undone-requires
idle-undone-requires c = (got (goal.at.idle-undone-requires c).After-receive-receipt).invariant

pub put_line-behind-requires : goal.put_line-behind-requires
put_line-behind-requires c =
    let fits = room (goal.at.put_line-behind-requires c).In-loop-at in
    record { most_message_bytes_in_bounds = omega (arith, mid_long c.loop-at.behind c.loop-at.out, fits.0); place_le_most_input = fits.1 }

pub overflow_add-at : goal.overflow_add-at
overflow_add-at c = omega (arith, (inside (goal.at.overflow_add-at c).Else-taken-eq0).2, c.requires.input_len_bound)

pub overflow_add-place : goal.overflow_add-place
overflow_add-place c = omega (arith, (room (goal.at.overflow_add-place c).In-loop-at).1)

pub loop-at-smaller : goal.loop-at-smaller
loop-at-smaller c =
    let size = inside (goal.at.loop-at-smaller c).Else-taken-eq0 in
    omega (arith, size.1, size.2, c.loop-at-test.true)

pub loop-at-preserved : goal.loop-at-preserved
loop-at-preserved c = (
  put_step c.loop-at.invariant.0 c.loop-at-test.true (got (goal.at.loop-at-preserved c).After-receive-receipt) c.if-taken-eq0.false c.idle-undone.ensures.0
      (room (goal.at.loop-at-preserved c).In-loop-at).0 c.put_line-behind.ensures,
  c.idle-undone.ensures.1 ∙ c.receive-receipt.ensures.spare ∙ c.loop-at.invariant.1,
)

-- ---- the end

pub shape_of-out : goal.shape_of-out
shape_of-out c = c.loop-at.invariant.0.lines.size

pub returns : goal.returns
returns c = (put-end c.loop-at.invariant.0 c.loop-at-test.false c.requires.input_len_bound, c.loop-at.invariant.1)
