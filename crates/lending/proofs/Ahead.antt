-- A call that is passed a reference which the caller was passed itself, ahead of values and fields: the reference is spent, and the token of
-- its lifetime comes back.
use mathlib.Core.Path.{refl, ap, subst}
use Prim.Native.Nat.{ℕ}
use mathlib.Core.Bool.{false}
use mathlib.Core.List.{List, [], ◌∷◌, ◌++◌}
use seplogic.Ra.Ura.{Ura}
use mir.Syntax.{Ty, Callee, Place, Opd as Operand, Body as Code, seq, call}
use mir.Val.{Val}
use base.Logic.{ent, id⊢}
use base.Fml.{Lft, Share, ftrue, fsep, flft}
use prog.Wp.{Env, Calls, Loops}
use types.Logic.{Logic}
use contract.Monad.{fact}
use sound.WpLaws.{FmC}
use types.Kit.{Item, ‵, raw, some, later, ◌⊛◌, mean, Post, lands, runs, Seq, ◌$◌, move, drop, split, join, fsplit, fjoin}
use types.Kit.{use1, use2, pick, await, regoal}
use types.Tokens.{lft_new, lft_end}
use types.Run.{Opds}
use denote.RattleType.{RattleType}
use denote.Laws.{Is, shows}
use denote.Memory.{part_at}
use denote.Steps.{only, facts, heard}
use denote.Triple.Call.{calls_from}
use Rattle.lending.proofs.Within.{Spelt}
use Rattle.lending.proofs.Passing.{Pass, Here, Ends, Names, Spelling, Had, Able, LoanAt, ended, operands, owned_by, left_by, tokens, passed}
use Rattle.lending.proofs.Passing.{fields, kept, Readable, lends, regains}

-- the reference: its type, its lifetime and a share of that lifetime's token, what it is and how it is spelled
pub record Ahead : Type 2 where
  pub type : RattleType
  pub life : Lft
  pub share : Share
  pub here : type.Denot
  pub machine : List Val

module _ (a : Ahead) {M : Type 1} {𝓤 : Ura M} (𝓛 : Logic 𝓤) (b o : ℕ) (ps : List Pass) where
  abbrev pub token : Item 𝓤
  token = ‵ (flft a.life a.share)

  abbrev pub reference : Item 𝓤
  reference = ‵ (a.type.own_val a.here a.machine)

  abbrev pub operands_behind : Spelling ps → List Val
  operands_behind vs = a.machine ++ operands b o ps vs

  -- what the callee is passed, and what it returns
  abbrev pub passed_behind : Lft → Here ps → Spelling ps → Names ps → Item 𝓤
  passed_behind κ xs vs ns =
      (token ⊛ tokens b o 𝓛 ps ns) ⊛ ‵ (fsep (a.type.own_val a.here a.machine) (owned_by b o κ ps xs vs ns))

  abbrev pub returned_behind : (X : RattleType) → (X.Denot → Ends ps → Type 0) → Names ps → Val → Item 𝓤
  returned_behind X Φ ns w =
      later (some (λ (r : X.Denot). ((token ⊛ tokens b o 𝓛 ps ns) ⊛ ‵ (X.own_val r (w ∷ []))) ⊛ some (λ (zs : Unit {0} × Ends ps).
      ‵ (fsep ftrue (left_by b o ps ns zs.1)) ⊛ raw (fact 𝓤 (Φ r zs.1)))))

module _ {M : Type 1} {𝓤 : Ura M} {𝓛 : Logic 𝓤} {K : Type 0} {Γ : List (Item 𝓤)} {E : Env 𝓤 𝓛.H} {C : Calls 𝓤 𝓛.H}
    {Λ : Loops 𝓤 𝓛.H} {q : Post 𝓤 𝓛.H} {d : Place} {g : Callee} {os : List Operand} {rest : Code} where
  open 𝓛 use {H}

  pub calls_behind : K → FmC 𝓤 H 𝓛.laws C → (a : Ahead) (b o : ℕ) (u : Share) (R : RattleType) (ps : List Pass) (X : RattleType) {δ : Ty}
      (s : Spelt X δ) (Φ : X.Denot → Ends ps → Type 0) {h : R.Denot} {xs : Here ps} {into : Ends ps → R.Denot} (vs : Spelling ps)
      → LoanAt b o 𝓛 u R ps h xs into → Had b o 𝓛 ps xs vs → Able u ps → Readable b o 𝓛 u false ps xs
      → ((κ : Lft) (ns : Names ps) → ent 𝓤 (mean 𝓛 (passed_behind a 𝓛 b o ps κ xs vs ns))
      (C g (operands_behind a 𝓛 b o ps vs) (λ w. mean 𝓛 (returned_behind a 𝓛 b o ps X Φ ns w))))
      → ((i j : Item 𝓤) → Opds K 𝓛 (i ∷ j ∷ Γ) E os (operands_behind a 𝓛 b o ps vs))
      → ((r : X.Denot) (zs : Ends ps) → Is X r (s.val r ∷ []) → Φ r zs
      → Seq K 𝓛 (‵ (part_at R u (into zs) b o) ∷ token a 𝓛 b o ps ∷ Γ) (lands C Λ E d (s.val r) rest q))
      → Seq K 𝓛 (‵ (part_at R u h b o) ∷ token a 𝓛 b o ps ∷ reference a 𝓛 b o ps ∷ Γ) (runs C Λ E (seq (call g os d) rest) q)
  calls_behind t fm a b o u R ps X s Φ {h} {xs} {into} vs l had able can gives opds k =
      lft_new t tt (λ ν. lft_end t tt $ move t (1 ∷ []) $
      use1 𝓛 (fields b o 𝓛 u ps xs ⊛ raw l.rest) l.out $ split t $
      use1 𝓛 (later (some (λ (ns : Names ps). passed b o 𝓛 (ν ∷ []) ps xs vs ns ⊛ kept b o 𝓛 u (ν ∷ []) ps xs ns)))
      (lends b o 𝓛 u (ν ∷ []) ps xs vs had able can) $ await t tt $ pick t (λ ns. split t $
      -- [what is passed; what is kept; the rest of the struct; over; the token; the reference; …]
      move t (3 ∷ 1 ∷ []) $ join t $ move t (0 ∷ 2 ∷ []) $ join t $ move t (1 ∷ []) $ split t $
      -- [tokens; what is owned; what is kept, with the rest of the struct; the token; the reference; …]
      move t (3 ∷ 0 ∷ []) $ join t $ move t (3 ∷ 1 ∷ []) $ fjoin t $ move t (1 ∷ 0 ∷ []) $ join t $
      calls_from t fm (passed_behind a 𝓛 b o ps (ν ∷ []) xs vs ns) (operands_behind a 𝓛 b o ps vs)
      (λ w. mean 𝓛 (returned_behind a 𝓛 b o ps X Φ ns w)) (gives (ν ∷ []) ns) (opds _ _) (λ w.
      use1 𝓛 (returned_behind a 𝓛 b o ps X Φ ns w) (id⊢ 𝓤 _) $ await t tt $ pick t (λ r. split t $ move t (1 ∷ []) $ pick t (λ zs. split t $
      move t (1 ∷ []) $ heard t (Φ r zs.1) (λ φ. fsplit t $ drop t $ move t (1 ∷ []) $ split t $ split t $ move t (2 ∷ []) $
      facts t X (Is X) (shows 𝓛 X) r (w ∷ []) (λ is. regoal t (λ (v : Val). lands C Λ E d v rest q) (ap only (s.tells r (w ∷ []) is)) refl $
      -- [the token; tokens; the last values; what is kept, with the rest of the struct; …]
      move t (1 ∷ 2 ∷ []) $ join t $ move t (2 ∷ []) $ split t $ move t (0 ∷ 2 ∷ []) $
      use2 𝓛 (later (fields b o 𝓛 u ps (ended ps xs zs.1))) (regains b o 𝓛 u (ν ∷ []) ps xs ns zs.1 able) $ await t tt $
      use2 𝓛 (‵ (part_at R u (into zs.1) b o)) (l.back zs.1) $ k r zs.1 (subst (Is X r) (s.tells r (w ∷ []) is) is) φ)))))))
