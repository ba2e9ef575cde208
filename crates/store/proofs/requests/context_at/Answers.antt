-- `context_at` meets its contract: storing the words that are left gives them all.
use Prim.Native.Nat.{ℕ, ◌≤◌, ◌+◌, ◌*◌}
use native.Mathlib.Omega.{arith}
use mathlib.Core.Path.{◌≡◌, refl, sym, ap, ◌∙◌}
use mathlib.Core.List.{[]}
use lib.ListN.{length, length-set, replicate}
use lib.Seq.{sets, slice, slice_empty, length-slice}
use Rattle.lists.proofs.PlaceLaws.{sets_all}
use Rattle.numbers.specs.Numbers.{most_panels}
use Rattle.sets.specs.Sets.{set_of}
use Rattle.store.specs.Requests.{context_at}
use Rattle.store.proofs.SliceLaws.{read_on}
use Rattle.store.proofs.requests.context_at.Goals as goal

pub loop-i-init : goal.loop-i-init
loop-i-init c =
    let at = most_panels * c.args.slot in
    let l = c.args.contexts.now in
    let first : at + 0 ≡ at = omega arith in
    let long : length (slice at (at + most_panels) l) ≡ most_panels =
    length-slice at (at + most_panels) l (omega (arith, c.requires)) ∙ omega arith in (
      omega arith,
      refl,
      ap (λ (k : ℕ). sets (replicate most_panels 0) 0 (slice k (at + most_panels) l)) first
          ∙ sets_all (replicate most_panels 0) (slice at (at + most_panels) l) long,
    )

pub loop-i-preserved : goal.loop-i-preserved
loop-i-preserved c =
    let v = c.loop-i in
    let inside : most_panels * c.args.slot + most_panels ≤ length c.args.contexts.now = omega (arith, c.requires) in (
      omega arith,
      simp length-set v.invariant.1,
      read_on (most_panels * c.args.slot) v.i c.args.contexts.now v.word-items most_panels (omega arith) inside ∙ v.invariant.2,
    )

pub returns : goal.returns
unfolding context_at
returns c =
    let v = c.loop-i in
    let at = most_panels * c.args.slot in
    let l = c.args.contexts.now in
    let end : at + v.i ≡ at + most_panels = omega arith in
    let none : slice (at + v.i) (at + most_panels) l ≡ [] =
    ap (λ (k : ℕ). slice k (at + most_panels) l) end ∙ slice_empty (at + most_panels) l in
    ap set_of (ap (sets v.word-items v.i) (sym none) ∙ v.invariant.2)
