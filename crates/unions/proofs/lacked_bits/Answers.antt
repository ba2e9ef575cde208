-- `unions::lacked_bits` meets its contract.
use Prim.Native.Nat.{◌-◌, ◌≤◌}
use native.Mathlib.Omega.{arith}
use borrow.Author.Rules.{rules}
use lib.Bits.{bit_and, and_le_l}
use lib.Count.{ones, ones-le}
use Rattle.numbers.specs.Numbers.{most_events}
use Rattle.unions.proofs.LackedLaws.{lacked_ones}
use Rattle.unions.proofs.lacked_bits.Goals as goal

pub overflow_sub-lacked : goal.overflow_sub-lacked
overflow_sub-lacked c = and_le_l _ _

pub overflow_cast-result : goal.overflow_cast-result
overflow_cast-result c =
    let w = c.args.word in
    let few : ones (w - bit_and w c.args.other) ≤ most_events = ones-le most_events _ (omega arith) in
    search (rules, few)

pub returns : goal.returns
returns c = lacked_ones _ _ (omega arith)
