-- A function's locals as one entry of a walk's context, so that a walk says which local it reads or writes and not where its cell stands.
use mathlib.Core.Path.{◌≡◌, refl, sym, ap, subst}
use Prim.Native.Nat.{ℕ, zero, suc, ◌+◌}
use mathlib.Core.List.{List, [], ◌∷◌}
use mathlib.Core.Option.{Option, some as full, none as empty}
use seplogic.Ra.Ura.{Ura}
use base.Fraction.{full_share}
use lib.ListN.{set}
use lib.Dec.{T as Holds}
use mir.Syntax.{Ty, Local, local, Opd as Operand, Body as Code, place, copy, addr_of, deref, field, seq, assign}
use mir.Val.{Val, WT, has_ty, vptr}
use base.Logic.{SProp, ent, sep, wand, all, via, all_e, apply∗}
use base.Fml.{fat, froom, fdies, ftrue}
use prog.Memory.{field_of}
use prog.Wp.{Heap, Env, Calls, Loops, spot_of}
use types.Logic.{Logic}
use types.Kit.{Item, ‵, raw, ◌⊛◌, mean, ⋆, nth, del, put, pull, fill, allocs, passes, frees, runs, Goal, Post, Seq, Step, step, ◌$◌, ◌∵◌, ! }
use types.Kit.{qed, by, move, drop, split, join}
use types.Kit.{use1, use2, assume, frame, each, check, done}
use types.Run.{Writes, Opds, init, forget, stop, hop, fld, from, load, addr, and_then, no_more, assigns, alloc1, alloc0, pass1, pass0, free1, free0}
use types.Part.{Part, look_in}
use denote.Steps.{nothing}

-- one block for each local, and what lies there at first
abbrev pub Blocks : List Local → Type 0
Blocks [] = Unit {0}
Blocks (l ∷ ls) = ℕ × Blocks ls

abbrev pub rooms : List Local → List (Option Val)
rooms [] = []
rooms (l ∷ ls) = empty ∷ rooms ls

-- local i holds v
abbrev pub HoldsAt : List (Option Val) → ℕ → Val → Type 0
HoldsAt [] i v = ⊥
HoldsAt (x ∷ vs) zero v = x ≡ full v
HoldsAt (x ∷ vs) (suc i) v = HoldsAt vs i v

module _ {M : Type 1} (𝓤 : Ura M) (H : Heap 𝓤) where
  abbrev pub blocks : (ls : List Local) → Blocks ls → Env 𝓤 H
  blocks [] bs = []
  blocks (local τ h ∷ ls) bs = (τ, bs.0) ∷ blocks ls bs.1

  -- there are as many contents as locals, and local i is one of them
  abbrev pub Fits : Env 𝓤 H → List (Option Val) → Type 0
  Fits [] [] = Unit {0}
  Fits [] (x ∷ vs) = ⊥
  Fits (e ∷ E) [] = ⊥
  Fits (e ∷ E) (x ∷ vs) = Fits E vs

  abbrev pub Has : Env 𝓤 H → List (Option Val) → ℕ → Type 0
  Has [] vs i = ⊥
  Has (e ∷ E) [] i = ⊥
  Has (e ∷ E) (x ∷ vs) zero = Unit {0}
  Has (e ∷ E) (x ∷ vs) (suc i) = Has E vs i

  abbrev cell : Ty × ℕ → Option Val → Item 𝓤
  cell e (full v) = ‵ (fat full_share e.0 e.1 zero v)
  cell e empty = ‵ (froom e.0 e.1 zero)

  abbrev pub cells : Env 𝓤 H → List (Option Val) → Item 𝓤
  cells [] vs = ‵ ftrue
  cells (e ∷ E) [] = ‵ ftrue
  cells (e ∷ E) (x ∷ vs) = (cell e x ⊛ ‵ (fdies e.0 e.1)) ⊛ cells E vs

module _ {M : Type 1} {𝓤 : Ura M} (𝓛 : Logic 𝓤) where
  open 𝓛 use {H}

  -- room for local i, and the locals again once something lies there
  taken : (E : Env 𝓤 H) (vs : List (Option Val)) (i : ℕ) → Has 𝓤 H E vs i
      → ent 𝓤 (mean 𝓛 (cells 𝓤 H E vs)) (sep 𝓤 (H.room (spot_of 𝓤 H E i).0 (spot_of 𝓤 H E i).1 zero)
      (all 𝓤 (λ (u : Val). wand 𝓤 (H.at full_share (spot_of 𝓤 H E i).0 (spot_of 𝓤 H E i).1 zero u) (mean 𝓛 (cells 𝓤 H E (set vs i (full u)))))))
  taken [] vs i has = absurd has
  taken (e ∷ E) [] i has = absurd has
  taken (e ∷ E) (empty ∷ vs) zero has =
      qed 𝓛 (cells 𝓤 H (e ∷ E) (empty ∷ vs) ∷ []) ∵ split ! $ split ! $ frame ! $
      each ! (λ (u : Val). wand 𝓤 (H.at full_share e.0 e.1 zero u) (mean 𝓛 (cells 𝓤 H (e ∷ E) (full u ∷ vs)))) (λ u.
      assume ! (‵ (fat full_share e.0 e.1 zero u)) $ join ! $ done !)
  taken (e ∷ E) (full v ∷ vs) zero has =
      qed 𝓛 (cells 𝓤 H (e ∷ E) (full v ∷ vs) ∷ []) ∵ split ! $ split ! $ forget ! 0 refl $ frame ! $
      each ! (λ (u : Val). wand 𝓤 (H.at full_share e.0 e.1 zero u) (mean 𝓛 (cells 𝓤 H (e ∷ E) (full u ∷ vs)))) (λ u.
      assume ! (‵ (fat full_share e.0 e.1 zero u)) $ join ! $ done !)
  taken (e ∷ E) (x ∷ vs) (suc i) has =
      qed 𝓛 (cells 𝓤 H (e ∷ E) (x ∷ vs) ∷ []) ∵ split ! $ move ! (1 ∷ []) $
      use1 𝓛 (‵ (froom (spot_of 𝓤 H E i).0 (spot_of 𝓤 H E i).1 zero) ⊛ raw (all 𝓤 Back)) (taken E vs i has) $ split ! $ frame ! $
      each ! (λ (u : Val). wand 𝓤 (H.at full_share (spot_of 𝓤 H E i).0 (spot_of 𝓤 H E i).1 zero u) (mean 𝓛 (cells 𝓤 H (e ∷ E) (x ∷ set vs i
      (full u))))) (λ u.
      assume ! (‵ (fat full_share (spot_of 𝓤 H E i).0 (spot_of 𝓤 H E i).1 zero u)) $ move ! (1 ∷ []) $
      use1 𝓛 (raw (Back u)) (all_e 𝓤 Back u) $ move ! (1 ∷ 0 ∷ []) $
      use2 𝓛 (cells 𝓤 H E (set vs i (full u))) (apply∗ 𝓤 (H.at full_share (spot_of 𝓤 H E i).0 (spot_of 𝓤 H E i).1 zero u) (mean 𝓛 (cells 𝓤 H E
      (set vs i (full u))))) $
      move ! (1 ∷ 0 ∷ []) $ done !)
    where
      Back : Val → SProp 𝓤
      Back u = wand 𝓤 (H.at full_share (spot_of 𝓤 H E i).0 (spot_of 𝓤 H E i).1 zero u) (mean 𝓛 (cells 𝓤 H E (set vs i (full u))))

  -- the cell of a local that holds v
  held : (E : Env 𝓤 H) (vs : List (Option Val)) (i : ℕ) (v : Val) → Has 𝓤 H E vs i → HoldsAt vs i v
      → ent 𝓤 (mean 𝓛 (cells 𝓤 H E vs)) (sep 𝓤 (H.at full_share (spot_of 𝓤 H E i).0 (spot_of 𝓤 H E i).1 zero v)
      (all 𝓤 (λ (u : Val). wand 𝓤 (H.at full_share (spot_of 𝓤 H E i).0 (spot_of 𝓤 H E i).1 zero u) (mean 𝓛 (cells 𝓤 H E (set vs i (full u)))))))
  held [] vs i v has is = absurd has
  held (e ∷ E) [] i v has is = absurd has
  held (e ∷ E) (x ∷ vs) zero v has is =
      subst (λ (y : Option Val). ent 𝓤 (mean 𝓛 (cells 𝓤 H (e ∷ E) (y ∷ vs))) (sep 𝓤 (H.at full_share e.0 e.1 zero v)
      (all 𝓤 (λ (u : Val). wand 𝓤 (H.at full_share e.0 e.1 zero u) (mean 𝓛 (cells 𝓤 H (e ∷ E) (full u ∷ vs))))))) (sym is)
      (qed 𝓛 (cells 𝓤 H (e ∷ E) (full v ∷ vs) ∷ []) ∵ split ! $ split ! $ frame ! $
      each ! (λ (u : Val). wand 𝓤 (H.at full_share e.0 e.1 zero u) (mean 𝓛 (cells 𝓤 H (e ∷ E) (full u ∷ vs)))) (λ u.
      assume ! (‵ (fat full_share e.0 e.1 zero u)) $ join ! $ done !))
  held (e ∷ E) (x ∷ vs) (suc i) v has is =
      qed 𝓛 (cells 𝓤 H (e ∷ E) (x ∷ vs) ∷ []) ∵ split ! $ move ! (1 ∷ []) $
      use1 𝓛 (‵ (fat full_share (spot_of 𝓤 H E i).0 (spot_of 𝓤 H E i).1 zero v) ⊛ raw (all 𝓤 Back)) (held E vs i v has is) $ split ! $ frame ! $
      each ! (λ (u : Val). wand 𝓤 (H.at full_share (spot_of 𝓤 H E i).0 (spot_of 𝓤 H E i).1 zero u) (mean 𝓛 (cells 𝓤 H (e ∷ E) (x ∷ set vs i
      (full u))))) (λ u.
      assume ! (‵ (fat full_share (spot_of 𝓤 H E i).0 (spot_of 𝓤 H E i).1 zero u)) $ move ! (1 ∷ []) $
      use1 𝓛 (raw (Back u)) (all_e 𝓤 Back u) $ move ! (1 ∷ 0 ∷ []) $
      use2 𝓛 (cells 𝓤 H E (set vs i (full u))) (apply∗ 𝓤 (H.at full_share (spot_of 𝓤 H E i).0 (spot_of 𝓤 H E i).1 zero u) (mean 𝓛 (cells 𝓤 H E
      (set vs i (full u))))) $
      move ! (1 ∷ 0 ∷ []) $ done !)
    where
      Back : Val → SProp 𝓤
      Back u = wand 𝓤 (H.at full_share (spot_of 𝓤 H E i).0 (spot_of 𝓤 H E i).1 zero u) (mean 𝓛 (cells 𝓤 H E (set vs i (full u))))

set-held : (vs : List (Option Val)) (i : ℕ) (v : Val) → HoldsAt vs i v → set vs i (full v) ≡ vs
set-held [] i v is = refl
set-held (x ∷ vs) zero v is = ap (λ (y : Option Val). y ∷ vs) (sym is)
set-held (x ∷ vs) (suc i) v is = ap (λ (us : List (Option Val)). x ∷ us) (set-held vs i v is)

module _ {M : Type 1} {𝓤 : Ura M} {𝓛 : Logic 𝓤} {K : Type 0} where
  -- local i, which holds v, as a part of the entry
  open 𝓛 use {H}

  pub the : K → (E : Env 𝓤 H) (vs : List (Option Val)) (i : ℕ) {v : Val} → Has 𝓤 H E vs i → HoldsAt vs i v
      → Part K 𝓛 (cells 𝓤 H E vs) full_share (spot_of 𝓤 H E i).0 (spot_of 𝓤 H E i).1 zero v (λ u. cells 𝓤 H E (set vs i (full u)))
  the t E vs i {v} has is = record {
    out = held 𝓛 E vs i v has is;
    same = ap (λ (us : List (Option Val)). cells 𝓤 H E us)
        (set-held vs i v is);
  }

  -- local i is written
  pub fill_local : K → {Γ : List (Item 𝓤)} (n : ℕ) (E : Env 𝓤 H) (vs : List (Option Val)) (i : ℕ) {v : Val} → nth 𝓛 n Γ ≡ cells 𝓤 H E vs
      → Has 𝓤 H E vs i
      → Holds (has_ty (spot_of 𝓤 H E i).0 v) × WT v
      → Writes K 𝓛 Γ (spot_of 𝓤 H E i).0 (spot_of 𝓤 H E i).1 zero v (put 𝓛 n (cells 𝓤 H E (set vs i (full v))) Γ)
  fill_local t {Γ} n E vs i {v} e has wt = record {
    go = λ P k.
        via 𝓤 (sep 𝓤 (mean 𝓛 (cells 𝓤 H E vs)) (⋆ 𝓛 (del 𝓛 n Γ)))
        (subst (λ (j : Item 𝓤). ent 𝓤 (⋆ 𝓛 Γ) (sep 𝓤 (mean 𝓛 j) (⋆ 𝓛 (del 𝓛 n Γ)))) e (pull 𝓛 n Γ))
        (qed 𝓛 (cells 𝓤 H E vs ∷ raw (⋆ 𝓛 (del 𝓛 n Γ)) ∷ []) ∵ check ! wt $
        use1 𝓛 (‵ (froom (spot_of 𝓤 H E i).0 (spot_of 𝓤 H E i).1 zero) ⊛ raw (all 𝓤 Back)) (taken 𝓛 E vs i has) $ split ! $ frame ! $
        assume ! (‵ (fat full_share (spot_of 𝓤 H E i).0 (spot_of 𝓤 H E i).1 zero v)) $ move ! (1 ∷ []) $ use1 𝓛 (raw (Back v)) (all_e 𝓤 Back v) $
        move ! (1 ∷ 0 ∷ []) $
        use2 𝓛 (cells 𝓤 H E (set vs i (full v))) (apply∗ 𝓤 (H.at full_share (spot_of 𝓤 H E i).0 (spot_of 𝓤 H E i).1 zero v) (mean 𝓛
        (cells 𝓤 H E (set vs i (full v))))) $
        by ! (via 𝓤 (⋆ 𝓛 (put 𝓛 n (cells 𝓤 H E (set vs i (full v))) Γ)) (fill 𝓛 n (cells 𝓤 H E (set vs i (full v))) Γ) k));
  }
    where
      Back : Val → SProp 𝓤
      Back u = wand 𝓤 (H.at full_share (spot_of 𝓤 H E i).0 (spot_of 𝓤 H E i).1 zero u) (mean 𝓛 (cells 𝓤 H E (set vs i (full u))))

  -- the locals come, and go
  pub alloc_all : K → (ls : List Local) {Γ : List (Item 𝓤)} {Kt : Env 𝓤 H → Goal 𝓤 H}
      → ((bs : Blocks ls) → Seq K 𝓛 (cells 𝓤 H (blocks 𝓤 H ls bs) (rooms ls) ∷ Γ) (Kt (blocks 𝓤 H ls bs))) → Seq K 𝓛 Γ (allocs ls Kt)
  alloc_all t [] k = alloc0 t $ nothing t $ k tt
  alloc_all t (local τ h ∷ ls) k = alloc1 t (λ b. alloc_all t ls (λ bs. move t (1 ∷ 2 ∷ []) $ join t $ join t $ k (b, bs)))

  pub free_all : K → (E : Env 𝓤 H) (vs : List (Option Val)) {Γ : List (Item 𝓤)} {g : Goal 𝓤 H} → Fits 𝓤 H E vs → Step K 𝓛 Γ g (cells 𝓤 H E vs ∷ Γ)
      (frees E g)
  free_all t [] [] fits = step (λ s. drop t $ free0 t $ s)
  free_all t [] (x ∷ vs) fits = absurd fits
  free_all t (e ∷ E) [] fits = absurd fits
  free_all t (e ∷ E) (full v ∷ vs) fits = step (λ s. split t $ split t $ forget t 0 refl $ free1 t $ free_all t E vs fits $ s)
  free_all t (e ∷ E) (empty ∷ vs) fits = step (λ s. split t $ split t $ free1 t $ free_all t E vs fits $ s)

module _ {M : Type 1} (𝓤 : Ura M) (H : Heap 𝓤) (e : Ty × ℕ) (E : Env 𝓤 H) where
  -- the first local takes a value
  pub first-set : (vs : List (Option Val)) (v : Val) → Fits 𝓤 H (e ∷ E) vs
      → (Has 𝓤 H (e ∷ E) vs zero × (Has 𝓤 H (e ∷ E) (set vs zero (full v)) zero × HoldsAt (set vs zero (full v)) zero v))
      × Fits 𝓤 H (e ∷ E) (set vs zero (full v))
  first-set [] v fits = absurd fits
  first-set (x ∷ vs) v fits = ((tt, (tt, refl)), fits)

-- ---- the arguments come into the first locals

-- locals with those values in the first of them
abbrev pub stored : List Val → List (Option Val) → List (Option Val)
stored [] vs = vs
stored (u ∷ us) [] = []
stored (u ∷ us) (x ∷ vs) = full u ∷ stored us vs

module _ {M : Type 1} (𝓤 : Ura M) (H : Heap 𝓤) where
  -- each value is of its local's type
  abbrev pub AllTyped : Env 𝓤 H → List Val → Type 0
  AllTyped E [] = Unit {0}
  AllTyped [] (u ∷ us) = ⊥
  AllTyped (e ∷ E) (u ∷ us) = (Holds (has_ty e.0 u) × WT u) × AllTyped E us

module _ {M : Type 1} {𝓤 : Ura M} {𝓛 : Logic 𝓤} {K : Type 0} where
  open 𝓛 use {H}

  pub pass_all : K → (ls : List Local) (bs : Blocks ls) (us : List Val) {Γ : List (Item 𝓤)} {g : Goal 𝓤 H} → AllTyped 𝓤 H (blocks 𝓤 H ls bs) us
      → Step K 𝓛 (cells 𝓤 H (blocks 𝓤 H ls bs) (stored us (rooms ls)) ∷ Γ) g (cells 𝓤 H (blocks 𝓤 H ls bs) (rooms ls) ∷ Γ)
      (passes (blocks 𝓤 H ls bs) us g)
  pass_all t ls bs [] typed = step (λ s. pass0 t $ s)
  pass_all t [] bs (u ∷ us) typed = absurd typed
  pass_all t (local τ h ∷ ls) bs (u ∷ us) typed = step (λ s.
      split t $ split t $ pass1 t (init t 0 refl typed.0) $ move t (2 ∷ []) $ pass_all t ls bs.1 us typed.1 $ move t (1 ∷ 2 ∷ []) $
      join t $ join t $ s)

-- ---- the addresses of fields behind a pointer, each in a local, and locals as operands

-- the local that takes the address, the field, where it lies and its type
pub record Address : Type 0 where
  pub to : ℕ
  pub field : ℕ
  pub offset : ℕ
  pub ty : Ty

abbrev pub taking : ℕ → Ty → List Address → Code → Code
taking s σ [] rest = rest
taking s σ (a ∷ ds) rest = seq (assign (place a.to []) (addr_of (place s (deref σ ∷ field a.field ∷ [])))) (taking s σ ds rest)

abbrev pub addressed : ℕ → ℕ → List Address → List (Option Val) → List (Option Val)
addressed b o [] vs = vs
addressed b o (a ∷ ds) vs = addressed b o ds (set vs a.to (full (vptr b (o + a.offset))))

-- so many locals from i on
abbrev pub up_from : ℕ → ℕ → List ℕ
up_from i zero = []
up_from i (suc k) = i ∷ up_from (suc i) k

abbrev pub copies : List ℕ → List Operand
copies [] = []
copies (i ∷ is) = copy (place i []) ∷ copies is

module _ {M : Type 1} (𝓤 : Ura M) (H : Heap 𝓤) (E : Env 𝓤 H) where
  -- what the addresses ask: the pointer to b and o is in local s, the fields are there, and there are locals for the addresses
  abbrev pub Addressing : ℕ → Ty → ℕ → ℕ → List Address → List (Option Val) → Type 0
  Addressing s σ b o [] vs = Unit {0}
  Addressing s σ b o (a ∷ ds) vs =
      (((Has 𝓤 H E vs s × HoldsAt vs s (vptr b o)) × (field_of σ a.field ≡ full (a.ty, a.offset)))
      × (Has 𝓤 H E vs a.to × (Holds (has_ty (spot_of 𝓤 H E a.to).0 (vptr b (o + a.offset))) × WT (vptr b (o + a.offset)))))
      × Addressing s σ b o ds (set vs a.to (full (vptr b (o + a.offset))))

  abbrev pub HoldAll : List (Option Val) → List ℕ → List Val → Type 0
  HoldAll vs [] [] = Unit {0}
  HoldAll vs [] (u ∷ us) = ⊥
  HoldAll vs (i ∷ is) [] = ⊥
  HoldAll vs (i ∷ is) (u ∷ us) = (Has 𝓤 H E vs i × HoldsAt vs i u) × HoldAll vs is us

module _ {M : Type 1} {𝓤 : Ura M} {𝓛 : Logic 𝓤} {K : Type 0} {C : Calls 𝓤 𝓛.H} {Λ : Loops 𝓤 𝓛.H} {q : Post 𝓤 𝓛.H} where
  open 𝓛 use {H}

  pub takes : K → (E : Env 𝓤 H) (s : ℕ) (σ : Ty) (b o : ℕ) (ds : List Address) (vs : List (Option Val)) {i : Item 𝓤} {Δ : List
      (Item 𝓤)} {rest : Code}
      → Addressing 𝓤 H E s σ b o ds vs
      → Step K 𝓛 (i ∷ cells 𝓤 H E (addressed b o ds vs) ∷ Δ) (runs C Λ E rest q) (i ∷ cells 𝓤 H E vs ∷ Δ) (runs C Λ E (taking s σ ds rest) q)
  takes t E s σ b o [] vs ok = step (λ k. k)
  takes t E s σ b o (a ∷ ds) vs ok = step (λ k.
      assigns t (addr t (from t (hop t (look_in t 1 (the t E vs s ok.0.0.0.0 ok.0.0.0.1)) (fld t ok.0.0.1 (stop t))))) (from t
      (stop t))
      (fill_local t 1 E vs a.to refl ok.0.1.0 ok.0.1.1) $ takes t E s σ b o ds (set vs a.to (full (vptr b (o + a.offset))))
      ok.1 $ k)

module _ {M : Type 1} {𝓤 : Ura M} {𝓛 : Logic 𝓤} {K : Type 0} where
  open 𝓛 use {H}

  pub loads : K → (E : Env 𝓤 H) (vs : List (Option Val)) (is : List ℕ) (us : List Val) {i j : Item 𝓤} {Δ : List (Item 𝓤)}
      → HoldAll 𝓤 H E vs is us → Opds K 𝓛 (i ∷ j ∷ cells 𝓤 H E vs ∷ Δ) E (copies is) us
  loads t E vs [] [] ok = no_more t
  loads t E vs [] (u ∷ us) ok = absurd ok
  loads t E vs (i ∷ is) [] ok = absurd ok
  loads t E vs (i ∷ is) (u ∷ us) ok = and_then t (load t (from t (stop t)) (look_in t 2 (the t E vs i ok.0.0 ok.0.1))) (loads t E vs is us
      ok.1)
