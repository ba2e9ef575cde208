-- `heads::head_at` meets its contract, by what stands at the place.
use Prim.Native.Nat.{ℕ, ◌+◌}
use mathlib.Core.List.{List}
use mathlib.Core.Path.{◌≡◌, sym, ap, ◌∙◌}
use native.Mathlib.Nat.{add-zero}
use native.Mathlib.Omega.{arith}
use Rattle.std.specs.Prelude.{Option, Some, None}
use Rattle.fields.specs.Integers.{integer_at}
use Rattle.fields.specs.Widths.{decode}
use Rattle.wire.specs.declared.Kind.{Kind}
use Rattle.wire.specs.Layout.{kind_with}
use Rattle.wire.specs.Reader.{length_at, kind_at, read_as, read_at}
use Rattle.wire.specs.Head.{head_of}
use Rattle.wire.proofs.KindLaws.{kind_laws}
use Rattle.wire.proofs.ReaderLaws.{at-end, head_cut, of_option, is_refusal, refused_as, read_as_lem}
use Rattle.std.proofs.lemmas.Result.{err_from_is_err_and}
use Rattle.wire.proofs.heads.head_at.Goals as goal
use Rattle.wire.proofs.heads.head_at.Goals.{In-Some}

-- the numbers in front of a message are its length and its kind
length-read : (s : List ℕ) (at n : ℕ) → n ≡ integer_at s (at + 0) 2 → n ≡ length_at s at
unfolding length_at decode
length-read s at n e = e ∙ simp add-zero

kind-read : (s : List ℕ) (at n : ℕ) (o : Option Kind) → n ≡ integer_at s (at + 2) 2 → o ≡ kind_with n → kind_with (kind_at s at) ≡ o
unfolding kind_at decode
kind-read s at n o number e = sym (e ∙ ap kind_with number)

pub returns-then-len-at : goal.returns-then-len-at
unfolding head_of
returns-then-len-at c = sym (ap head_of (at-end _ _ c.if-len-at.true))

pub returns-then-len-at-lt-HEAD_SIZE : goal.returns-then-len-at-lt-HEAD_SIZE
unfolding head_of
returns-then-len-at-lt-HEAD_SIZE c = sym (ap head_of (head_cut _ _ c.if-len-at.false c.if-len-at-lt-HEAD_SIZE.true))

pub returns-in_default : goal.returns-in_default
unfolding head_of
returns-in_default c =
    let unknown = kind-read _ _ _ _ c.integer_at-number.ensures.0 c.in_default.ensures in
    sym (ap head_of (of_option _ _ c.if-len-at.false c.if-len-at-lt-HEAD_SIZE.false None unknown))

pub judge-requires : goal.judge-requires
judge-requires c = (omega arith, length-read _ _ _ c.integer_at-length.ensures.0)

-- what is read where a kind was told
as_kind : (c : In-Some) → read_at c.args.s.now c.args.at ≡ read_as c.in-Some.kind c.args.s.now c.args.at
as_kind c =
    of_option _ _ c.if-len-at.false c.if-len-at-lt-HEAD_SIZE.false (Some _)
    (kind-read _ _ _ _ c.integer_at-number.ensures.0 c.in-Some.ensures)

pub returns-in_err-judge : goal.returns-in_err-judge
unfolding head_of
returns-in_err-judge c =
    let word = c.in_err-judge.ensures in
    let p = err_from_is_err_and c.from_residual.result c.from_residual.ensures.1 in
    let refused = refused_as _ _ _ (λ e. is_refusal _ (word ∙ e)) in
    rw (p.1, p.2, word) (sym (ap head_of (as_kind (goal.at.returns-in_err-judge c).In-Some ∙ refused)))

pub returns : goal.returns
unfolding head_of
returns c =
    let kind = as_kind (goal.at.returns c).In-Some in
    let is = ap head_of (kind ∙ read_as_lem _ _ _ (sym c.in_ok-judge.ensures)) in
    rw (length-read _ _ _ c.integer_at-length.ensures.0) (sym (is ∙ rw (kind_laws _).kind_kept))
