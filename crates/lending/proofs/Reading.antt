-- Fields of a struct behind a pointer that are read, each into a local of its own.
use mathlib.Core.Path.{◌≡◌, refl, sym, subst}
use Prim.Native.Nat.{ℕ, suc, ◌+◌}
use mathlib.Core.List.{List, [], ◌∷◌}
use mathlib.Core.Option.{Option, some as full}
use seplogic.Ra.Ura.{Ura}
use lib.ListN.{set}
use lib.Dec.{T as Holds}
use mir.Syntax.{Ty, Body as Code, place, copy, rv_opd, deref, field, seq, assign}
use mir.Val.{Val, WT, has_ty, vptr}
use base.Fml.{Share}
use prog.Memory.{field_of}
use prog.Wp.{Heap, Env, Calls, Loops, spot_of}
use types.Logic.{Logic}
use types.Kit.{Item, ‵, runs, Post, Seq, ◌$◌}
use types.Run.{stop, hop, fld, from, load, of_opd, assigns}
use types.Part.{look_in}
use denote.RattleType.{RattleType}
use denote.Laws.{Is}
use denote.Memory.{part_at}
use Rattle.lending.proofs.Within.{Within, look_within, typed_within}
use Rattle.lending.proofs.Values.{Value}
use Rattle.lending.proofs.Locals.{Has, HoldsAt, cells, the, fill_local}

-- a field of R, whose MIR type is σ: which it is, where it lies, what is read there, and that it can be read at any share of the struct
pub record Read (R : RattleType) (σ : Ty) : Type 2 where
  pub field : ℕ
  pub offset : ℕ
  pub value : Value
  pub of : R.Denot → value.type.Denot
  pub found : field_of σ field ≡ full (value.ty, offset)
  pub within : {M : Type 1} {𝓤 : Ura M} (𝓛 : Logic 𝓤) (t : Share) (x : R.Denot) (b o : ℕ)
      → Within 𝓛 t R value.type x x (of x) (of x) b o (o + offset)

module _ {R : RattleType} {σ : Ty} where
  -- the pointer is in local s, and the fields go to locals i and up
  abbrev pub reading : ℕ → ℕ → List (Read R σ) → Code → Code
  reading s i [] rest = rest
  reading s i (r ∷ rs) rest = seq (assign (place i []) (rv_opd (copy (place s (deref σ ∷ field r.field ∷ []))))) (reading s (suc i) rs rest)

  module _ (x : R.Denot) where
    abbrev pub spelling : Read R σ → Val
    spelling r = r.value.spelt.val (r.of x)

    abbrev pub have-read : ℕ → List (Read R σ) → List (Option Val) → List (Option Val)
    have-read i [] vs = vs
    have-read i (r ∷ rs) vs = have-read (suc i) rs (set vs i (full (spelling r)))

    -- what is read tells of its values
    abbrev pub Told : List (Read R σ) → Type 0
    Told [] = Unit {0}
    Told (r ∷ rs) = Is r.value.type (r.of x) (spelling r ∷ []) × Told rs

    module _ {M : Type 1} (𝓤 : Ura M) (H : Heap 𝓤) (E : Env 𝓤 H) where
      -- what the reading asks: the pointer to b and o is in local s, and there are locals for the fields
      abbrev pub Reading : ℕ → ℕ → ℕ → ℕ → List (Read R σ) → List (Option Val) → Type 0
      Reading s b o i [] vs = Unit {0}
      Reading s b o i (r ∷ rs) vs =
          ((Has 𝓤 H E vs s × HoldsAt vs s (vptr b o)) × (Has 𝓤 H E vs i × ((spot_of 𝓤 H E i).0 ≡ r.value.ty)))
          × Reading s b o (suc i) rs (set vs i (full (spelling r)))

module _ {M : Type 1} {𝓤 : Ura M} {𝓛 : Logic 𝓤} {K : Type 0} {C : Calls 𝓤 𝓛.H} {Λ : Loops 𝓤 𝓛.H} {q : Post 𝓤 𝓛.H}
    {R : RattleType} {σ : Ty} where
  open 𝓛 use {H}

  pub reads_in : K → (E : Env 𝓤 H) (s b o : ℕ) (t : Share) (x : R.Denot) (i : ℕ) (rs : List (Read R σ)) (vs : List (Option Val))
      {Δ : List (Item 𝓤)} {rest : Code} → Reading x 𝓤 H E s b o i rs vs
      → (Told x rs → Seq K 𝓛 (‵ (part_at R t x b o) ∷ cells 𝓤 H E (have-read x i rs vs) ∷ Δ) (runs C Λ E rest q))
      → Seq K 𝓛 (‵ (part_at R t x b o) ∷ cells 𝓤 H E vs ∷ Δ) (runs C Λ E (reading s i rs rest) q)
  reads_in t E s b o u x i [] vs ok k = k tt
  reads_in t E s b o u x i (r ∷ rs) vs ok k =
      typed_within t 0 r.value.spelt refl (r.within 𝓛 u x b o) (λ wt is.
      assigns t (of_opd t (load t (from t (hop t (look_in t 1 (the t E vs s ok.0.0.0 ok.0.0.1)) (fld t r.found (stop t))))
      (look_within t 0 r.value.spelt refl (r.within 𝓛 u x b o))))
      (from t (stop t)) (fill_local t 1 E vs i refl ok.0.1.0
      (subst (λ (τ : Ty). Holds (has_ty τ (spelling x r)) × WT (spelling x r)) (sym ok.0.1.1) wt)) $
      reads_in t E s b o u x (suc i) rs (set vs i (full (spelling x r))) ok.1 (λ told. k (is, told)))
