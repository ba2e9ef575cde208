-- How long each line is at most; and that a line with the greatest numbers is as long.
use Prim.Native.Nat.{ℕ, suc, ◌+◌, ◌*◌, ◌-◌, ◌^◌, ◌≤◌, ◌<◌}
use native.Mathlib.Omega.{arith}
use mathlib.Core.Path.{◌≡◌, refl}
use mathlib.Core.Bool.{Bool, true, false}
use mathlib.Core.List.{List, [], ◌∷◌}
use lib.ListN.{length, length-append}
use lib.Dec.{eqb}
use Rattle.request.specs.Operations.{last_register}
use Rattle.effects.specs.Effect.{range}
use Rattle.effects.proofs.FrameLaws.{InRange}
use Rattle.text.specs.Text.{ascii, significant, decimal, rest_of_line, line}
use Rattle.text.proofs.DecimalLaws.{decimal_short, of-byte, of_short, of_wide}
use Rattle.report.specs.Lines.{board_line, refused_line, message_line, unread_line, totals_line}
use Rattle.report.specs.Lines.{register_line, line_unless_zero, register_lines_from, register_lines}
use Rattle.report.specs.Sizes.{most_board_bytes, most_refused_bytes, most_message_bytes, most_totals_bytes}
use Rattle.report.specs.Sizes.{most_register_bytes, most_registers_bytes, register_digits}

pub board_short : (panels own : ℕ) → panels < 2 ^ 8 → own < 2 ^ 8 → length (board_line panels own) ≤ most_board_bytes
unfolding board_line line rest_of_line ascii
board_short panels own p o = simp length-append (omega (arith, of-byte panels p, of-byte own o))

pub refused_short : (refusal : ℕ) → refusal < 2 ^ 8 → length (refused_line refusal) ≤ most_refused_bytes
unfolding refused_line line rest_of_line ascii
refused_short refusal f = simp length-append (omega (arith, of-byte refusal f))

pub message_short : (place kind panel event refusal undone : ℕ)
    → place < 2 ^ 32 → kind < 2 ^ 16 → panel < 2 ^ 8 → event < 2 ^ 8 → refusal < 2 ^ 8 → undone < 2 ^ 32
    → length (message_line place kind panel event refusal undone) ≤ most_message_bytes
unfolding message_line line rest_of_line
message_short place kind panel event refusal undone l k p e f u =
    simp length-append
    (omega
    (arith, of_wide place l, of_short kind k, of-byte panel p, of-byte event e, of-byte refusal f, of_wide undone u))

pub unread_short : (place refusal : ℕ) → place < 2 ^ 32 → refusal < 2 ^ 8 → length (unread_line place refusal) ≤ most_message_bytes
unfolding unread_line line rest_of_line ascii
unread_short place refusal l f =
    simp length-append (omega (arith, of_wide place l, of-byte refusal f, of-byte 0 (omega arith)))

pub totals_short : (settled unsettled undone carried : ℕ)
    → settled < 2 ^ 16 → unsettled < 2 ^ 16 → undone < 2 ^ 32 → carried < 2 ^ 32
    → length (totals_line settled unsettled undone carried) ≤ most_totals_bytes
unfolding totals_line line rest_of_line ascii
totals_short settled unsettled undone carried s t u c =
    simp length-append (omega (arith, of_short settled s, of_short unsettled t, of_wide undone u, of_wide carried c))

pub register_short : (register value : ℕ) → register < 10 ^ register_digits → value < range
    → length (register_line register value) ≤ most_register_bytes
unfolding register_line line rest_of_line ascii
register_short register value r v =
    simp length-append (omega (arith, decimal_short register_digits register (omega arith) r, of_wide value v))

unless_zero_short : (register value : ℕ) (none : Bool) → eqb value 0 ≡ none → register < 10 ^ register_digits → value < range
    → length (line_unless_zero register value) ≤ most_register_bytes
unfolding line_unless_zero
unless_zero_short register value true e r v = rw e (omega arith)
unless_zero_short register value false e r v = rw e (register_short register value r v)

from_short : (register : ℕ) (values : List ℕ) → register + length values ≤ 10 ^ register_digits → InRange values
    → length (register_lines_from register values) ≤ length values * most_register_bytes
unfolding register_lines_from
from_short register [] few small = omega arith
from_short register (value ∷ values) few small =
    let first = unless_zero_short register value (eqb value 0) refl (omega arith) (small 0) in
    let others = from_short (suc register) values (omega arith) (λ k. small (suc k)) in
    rw length-append (omega arith)

pub registers_short : (values : List ℕ) → length values ≡ suc last_register → InRange values
    → length (register_lines values) ≤ most_registers_bytes
unfolding register_lines
registers_short values all small = omega (arith, from_short 0 values (omega arith) small)

-- ---- the greatest numbers

greatest-lines :
    (length (board_line (2 ^ 8 - 1) (2 ^ 8 - 1)) ≡ most_board_bytes)
    × (length (refused_line (2 ^ 8 - 1)) ≡ most_refused_bytes)
    × (length (message_line (2 ^ 32 - 1) (2 ^ 16 - 1) (2 ^ 8 - 1) (2 ^ 8 - 1) (2 ^ 8 - 1) (2 ^ 32 - 1)) ≡ most_message_bytes)
    × (length (totals_line (2 ^ 16 - 1) (2 ^ 16 - 1) (2 ^ 32 - 1) (2 ^ 32 - 1)) ≡ most_totals_bytes)
    × (length (register_line last_register (range - 1)) ≡ most_register_bytes)
unfolding board_line refused_line message_line totals_line register_line line rest_of_line ascii decimal significant
greatest-lines = (refl, refl, refl, refl, refl)
