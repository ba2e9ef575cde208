-- Types of plain values, which own nothing but facts: a number and a declared struct, each as it stands in a local.
use mathlib.Core.Path.{refl}
use mathlib.Core.List.{[], ◌∷◌}
use seplogic.Ra.Ura.{Ura}
use lib.Dec.{T as Holds}
use mir.Syntax.{Ty, Width, ty_int}
use mir.Val.{WT, has_ty, vint}
use types.Logic.{Logic}
use denote.RattleType.{RattleType}
use denote.Laws.{Is, Makes}
use denote.Memory.{lone}
use denote.Plain.{UInt, uint_Tells, uint_Makes, uint_Lawful}
use denote.Struct.Struct.{Plains}
use denote.Struct.Declared.{Declared, row, fields}
use denote.Struct.Laws as LL
use Rattle.lending.proofs.Within.{Spelt}

-- a type of values that are spelled in one way, are had for nothing, and are of a MIR type
pub record Value : Type 2 where
  pub type : RattleType
  pub ty : Ty
  pub spelt : Spelt type ty
  pub makes : {M : Type 1} {𝓤 : Ura M} (𝓛 : Logic 𝓤) → Makes 𝓛 type (Is type)
  pub typed : {M : Type 1} {𝓤 : Ura M} (𝓛 : Logic 𝓤) → (x : type.Denot) → Is type x (spelt.val x ∷ [])
      → Holds (has_ty ty (spelt.val x)) × WT (spelt.val x)

abbrev pub number : Width → Value
number w = record {
  type = UInt w;
  ty = ty_int w;
  spelt = record { val = vint w; one = refl; same = refl; tells = uint_Tells w };
  makes = λ 𝓛. uint_Makes 𝓛 w;
  typed = λ 𝓛 x is. ((uint_Lawful 𝓛 w).typed x _ is).0;
}

abbrev pub struct : (D : Declared) → LL.Laws D → Plains (fields D) → Value
struct D L P = record {
  type = row D;
  ty = lone (row D).mir;
  spelt = record { val = LL.val D L; one = refl; same = refl; tells = LL.tells D L };
  makes = λ 𝓛. LL.makes D P 𝓛;
  typed = λ 𝓛 x is. ((LL.lawful D L 𝓛).typed x _ is).0;
}
