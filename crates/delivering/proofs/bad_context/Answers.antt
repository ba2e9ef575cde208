-- `delivering::bad_context` meets its contract: what names nobody names neither itself nor a panel outside.
use Prim.Native.Nat.{ℕ, zero, suc}
use mathlib.Core.Path.{◌≡◌, refl, ◌∙◌}
use mathlib.Core.Bool.{Bool, true, false, not, ◌||◌}
use mathlib.Core.List.{List, [], ◌∷◌}
use lib.ListN.{drop}
use lib.Dec.{eqb}
use Rattle.lists.proofs.BoolLaws.{both_true}
use Rattle.numbers.specs.declared.Number.{Number}
use Rattle.sets.specs.declared.Context.{Context}
use Rattle.sets.specs.Sets.{set_of, all_zero, is_empty, names_from, member}
use Rattle.sets.proofs.SetLaws.{empty_no_member}
use Rattle.request.specs.Request.{bad_context}
use Rattle.delivering.proofs.bad_context.Goals as goal

zeros_behind : (p : ℕ) (ws : List ℕ) → all_zero ws ≡ true → all_zero (drop p ws) ≡ true
unfolding all_zero
zeros_behind zero ws e = e
zeros_behind (suc p) [] e = refl
zeros_behind (suc p) (w ∷ ws) e = zeros_behind p ws (both_true (eqb w 0) (all_zero ws) e).1

-- of a context that names somebody, or nobody
weak_bad : (p : ℕ) (s : Context) (n : Number) → names_from 0 s ≡ not (is_empty s) || member s n || names_from p s
unfolding names_from is_empty
weak_bad p s n = go (all_zero s.words) refl
  where
    go : (b : Bool) → all_zero s.words ≡ b → not b ≡ not b || member s n || not (all_zero (drop p s.words))
    go false e = refl
    go true e = rw (empty_no_member s n e, zeros_behind p s.words e)

pub returns-then-not-x : goal.returns-then-not-x
unfolding bad_context
returns-then-not-x c =
    rw c.if-not-x.true
    (c.names_from.ensures ∙ weak_bad c.args.panels (c.args.x.now.context) c.args.x.now.number)

pub returns : goal.returns
unfolding bad_context
returns c = rw (c.if-not-x.false, c.member-itself.ensures, c.names_from-outside.ensures)
