-- Parameters that a function has let go at its exit, where nothing is said of them: values, and references through which nothing is changed.
use mathlib.Core.Path.{◌≡◌, refl}
use Prim.Native.Nat.{ℕ}
use mathlib.Core.List.{List, [], ◌∷◌}
use seplogic.Ra.Ura.{Ura}
use mir.Syntax.{Ty, Width}
use base.Logic.{ent, sep, emp, id⊢, via, mono_r, emp∗}
use base.Fml.{ftrue}
use types.Logic.{Logic, sem}
use contract.Lifetimes.{Lfts}
use denote.RattleType.{Denots, Valss}
use denote.Laws.{Ises, Spells, Tellss}
use denote.Signature.{Slot, plain, types_at}
use denote.Exit.{Last, left, yes}
use denote.Triple.End.{Kepts, Fins}
use denote.Triple.Walked.{Stays, stay_dropped, fits_of, has_of, AllGo, Goes-dropped}
use Rattle.lending.proofs.Values.{Value, number}

module _ {n : ℕ} where
  abbrev pub AllSilent : (ss : List (Slot n)) → Kepts ss → Type 1
  AllSilent [] ks = Unit {1}
  AllSilent (s ∷ ss) ks =
      ((κs : Lfts n) (x : (s.row κs).Denot) (f : Last ((s.row κs).exit ks.0) x) → left ((s.row κs).exit ks.0) x f ≡ ftrue)
      × AllSilent ss ks.1

  abbrev pub dropped : (ss : List (Slot n)) (ks : Kepts ss) → Stays ss ks
  dropped [] ks = tt
  dropped (s ∷ ss) ks = (stay_dropped s ks.0, dropped ss ks.1)

  module _ (κs : Lfts n) where
    pub all_fit : (ss : List (Slot n)) (ks : Kepts ss) (a : Denots (types_at ss κs)) (ws : Fins κs ss ks a) → fits_of κs ss ks (dropped ss ks) a ws
    all_fit [] ks a ws = tt
    all_fit (s ∷ ss) ks a ws = (tt, all_fit ss ks.1 a.1 ws.1)

  module _ {M : Type 1} {𝓤 : Ura M} (𝓛 : Logic 𝓤) where
    pub none_had : (κs : Lfts n) (ss : List (Slot n)) (ks : Kepts ss) (a : Denots (types_at ss κs)) (ws : Fins κs ss ks a)
        (vss : Valss (types_at ss κs)) → ent 𝓤 (emp 𝓤) (sem 𝓛 (has_of κs ss ks (dropped ss ks) a ws vss))
    none_had κs [] ks a ws vss = id⊢ 𝓤 (emp 𝓤)
    none_had κs (s ∷ ss) ks a ws vss =
        via 𝓤 (sep 𝓤 (emp 𝓤) (emp 𝓤)) (emp∗ 𝓤 (emp 𝓤)) (mono_r 𝓤 (emp 𝓤) (none_had κs ss ks.1 a.1 ws.1 vss.1))

    pub all_go : (ss : List (Slot n)) (ks : Kepts ss) → AllSilent ss ks → AllGo 𝓛 n ss ks (dropped ss ks)
    all_go [] ks silent = tt
    all_go (s ∷ ss) ks silent = (Goes-dropped 𝓛 n s ks.0 silent.0, all_go ss ks.1 silent.1)

-- parameters behind the first that are let go: their types, how their values are spelled, and that nothing is said of them
pub record Further (n : ℕ) : Type 2 where
  pub slots : List (Slot n)
  pub tys : List Ty
  pub kept : Kepts slots
  pub spells : (κs : Lfts n) → Spells (types_at slots κs)
  pub tells : (κs : Lfts n) → Tellss (types_at slots κs) (Ises (types_at slots κs)) (spells κs)
  pub silent : AllSilent slots kept
  pub last : (κs : Lfts n) (a : Denots (types_at slots κs)) → Fins κs slots kept a

abbrev pub none_further : {n : ℕ} → Further n
none_further = record { slots = []; tys = []; kept = tt; spells = λ κs. tt; tells = λ κs. tt; silent = tt; last = λ κs a. tt }

-- one value, of whose type nothing is said at the exit
abbrev pub a_value : {n : ℕ} (X : Value) → ((x : X.type.Denot) → Last (X.type.exit yes) x)
    → ((x : X.type.Denot) (w : Last (X.type.exit yes) x) → left (X.type.exit yes) x w ≡ ftrue) → Further n
a_value X last silent = record {
  slots = plain (λ κs. X.type) ∷ [];
  tys = X.ty ∷ [];
  kept = (yes, tt);
  spells = λ κs. ((λ x. X.spelt.val x ∷ []), tt);
  tells = λ κs. (X.spelt.tells, tt);
  silent = ((λ κs x w. silent x w), tt);
  last = λ κs a. (last a.0, tt);
}

abbrev pub a-number : {n : ℕ} → Width → Further n
a-number w = a_value (number w) (λ x. tt) (λ x w. refl)
