-- `put_line` meets its contract.
use Prim.Native.Nat.{◌<◌, ◌≤◌, ◌^◌}
use native.Mathlib.Omega.{arith}
use lib.ListN.{length}
use Rattle.report.specs.Lines.{message_line}
use Rattle.report.specs.Sizes.{most_message_bytes}
use Rattle.report.proofs.SizeLaws.{message_short}
use borrow.Author.Rules.{rules}
use Rattle.message_lines.proofs.put_line.Goals as goal
use Rattle.message_lines.proofs.put_line.Goals.{Start}

-- what the types say
small : (c : Start) → let a = c.args in
    (a.receipt.kind < 2 ^ 16) × (a.receipt.number.panel.0 < 2 ^ 8) × (a.receipt.number.event.0 < 2 ^ 8) × (a.receipt.reply.refusal < 2 ^ 8) × (a.undone < 2 ^ 32)
small c = (search rules, search rules, search rules, search rules, search rules)

short : (c : Start) → let a = c.args in
    length (message_line a.place a.receipt.kind a.receipt.number.panel.0 a.receipt.number.event.0 a.receipt.reply.refusal a.undone) ≤ most_message_bytes
short c =
    let s = small c in
    message_short _ _ _ _ _ _ (omega (arith, c.requires.place_le_most_input)) s.0 s.1 s.2 s.3 s.4

pub put_message-requires : goal.put_message-requires
put_message-requires c =
    record { fits = omega (arith, c.requires.most_message_bytes_in_bounds, short (goal.at.put_message-requires c).Start) }

pub returns : goal.returns
returns c =
    let w = c.put_message.ensures in
    record { written = w; few = omega (arith, w.count, short (goal.at.returns c).Start) }
