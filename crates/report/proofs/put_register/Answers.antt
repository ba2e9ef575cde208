-- `put_register` meets its contract: nothing where the register is 0, otherwise a line with a head.
use Prim.Native.Nat.{ℕ}
use mathlib.Core.Path.{◌≡◌}
use borrow.Author.Tests.{eq-eqb, ne_eqb}
use Rattle.text.specs.Text.{ascii, rest_of_line, line}
use Rattle.text.proofs.WrittenLaws.{nothing}
use Rattle.report.specs.Lines.{register_line, line_unless_zero}
use Rattle.report.proofs.put_register.Goals as goal

has-line : (register value : ℕ) → (value ≡ 0 → ⊥) → line_unless_zero register value ≡ register_line register value
unfolding line_unless_zero
has-line register value some = rw (ne_eqb value 0 some)

pub returns-then-value-eq0 : goal.returns-then-value-eq0
unfolding line_unless_zero
returns-then-value-eq0 c = rw (eq-eqb c.args.value 0 c.if-value-eq0.true) (nothing _)

pub put_line-requires : goal.put_line-requires
unfolding register_line line rest_of_line ascii
put_line-requires c = rw (has-line c.args.register c.args.value c.if-value-eq0.false) at c.requires

pub returns : goal.returns
unfolding register_line line rest_of_line ascii
returns c = rw (has-line c.args.register c.args.value c.if-value-eq0.false) c.put_line.ensures
