-- What a call is passed: values, and fields of a struct in memory that it is lent, some to be read and some to be changed.
use mathlib.Core.Path.{◌≡◌, refl, sym, ap, subst}
use Prim.Native.Nat.{ℕ, zero, suc, ◌+◌}
use mathlib.Core.Bool.{Bool, true, false}
use mathlib.Core.List.{List, [], ◌∷◌, ◌++◌}
use seplogic.Ra.Ura.{Ura}
use base.Fraction.{full_share}
use mir.Syntax.{Ty, Callee, Place, Opd as Operand, Body as Code, seq, call, named}
use mir.Val.{Val, vptr}
use base.Logic.{SProp, ent, sep, emp, id⊢}
use base.Fml.{Fml, GName, Lft, Share, Incl-refl, ftrue, fsep, flft, fdead, fres, flent}
use prog.Wp.{Env, Calls, Loops}
use types.Logic.{Logic, sem}
use contract.Monad.{fact}
use contract.BorrowLft.{⊑_static}
use contract.Lifetimes.{Lfts, Shares}
use sound.WpLaws.{FmC}
use types.Kit.{Item, ‵, raw, some, later, ◌⊛◌, mean, Post, lands, runs, Seq, ◌$◌, ◌∵◌, !, qed, move, drop, split, join, fsplit, fjoin}
use types.Kit.{use0, use1, use2, use3, pick, await, frame, rewrite, regoal, updating, now, show, done}
use types.Tokens.{lft_new, lft_end, lent_back}
use types.Run.{Opds}
use types.SemTy.{Body}
use denote.RattleType.{RattleType}
use denote.Laws.{Is, shows}
use denote.Memory.{part_at, mem, shared_of}
use denote.Ref.{Bor, MutBor, MutRef, ShrRef}
use denote.Shares.{SharesFrom}
use denote.Lends.{Lent}
use denote.Copied.{Copied}
use denote.Lend.{lends_ref, lends_shr, lends_free, ref_back}
use denote.Steps.{only, facts, heard, nothing}
use denote.Triple.Call.{calls_from}
use Rattle.lending.proofs.Within.{Spelt}

-- a lifetime for what is read from here on; a value; a field that is read, and one that is changed, so far into the struct
pub data Pass : Type 2 where
  life : Pass
  value : RattleType → Pass
  reads : RattleType → ℕ → Pass
  changes : RattleType → ℕ → Pass

-- the values before the call
abbrev pub Here : List Pass → Type 0
Here [] = Unit {0}
Here (life ∷ ps) = Here ps
Here (value R ∷ ps) = R.Denot × Here ps
Here (reads R d ∷ ps) = R.Denot × Here ps
Here (changes R d ∷ ps) = R.Denot × Here ps

-- the machine values of those that are passed by value
abbrev pub Spelling : List Pass → Type 0
Spelling [] = Unit {0}
Spelling (life ∷ ps) = Spelling ps
Spelling (value R ∷ ps) = List Val × Spelling ps
Spelling (reads R d ∷ ps) = Spelling ps
Spelling (changes R d ∷ ps) = Spelling ps

-- the lifetimes and ghost names that the lending makes: a `&` has no ghost name
abbrev pub Names : List Pass → Type 0
Names [] = Unit {0}
Names (life ∷ ps) = ℕ × Names ps
Names (value R ∷ ps) = Names ps
Names (reads R d ∷ ps) = Names ps
Names (changes R d ∷ ps) = (ℕ × GName) × Names ps

-- what a call leaves: a last value for each that it may change
abbrev pub Ends : List Pass → Type 0
Ends [] = Unit {0}
Ends (life ∷ ps) = Ends ps
Ends (value R ∷ ps) = Unit {0} × Ends ps
Ends (reads R d ∷ ps) = Unit {0} × Ends ps
Ends (changes R d ∷ ps) = R.Denot × Ends ps

-- the values after it
abbrev pub ended : (ps : List Pass) → Here ps → Ends ps → Here ps
ended [] xs zs = tt
ended (life ∷ ps) xs zs = ended ps xs zs
ended (value R ∷ ps) xs zs = (xs.0, ended ps xs.1 zs.1)
ended (reads R d ∷ ps) xs zs = (xs.0, ended ps xs.1 zs.1)
ended (changes R d ∷ ps) xs zs = (zs.0, ended ps xs.1 zs.1)

-- fields are changed only where the whole of them is there, and not a share
abbrev pub Able : Share → List Pass → Type 0
Able t [] = Unit {0}
Able t (life ∷ ps) = Able t ps
Able t (value R ∷ ps) = Able t ps
Able t (reads R d ∷ ps) = Able t ps
Able t (changes R d ∷ ps) = (t ≡ full_share) × Able t ps

pub whole_able : (ps : List Pass) → Able full_share ps
whole_able [] = tt
whole_able (life ∷ ps) = whole_able ps
whole_able (value R ∷ ps) = whole_able ps
whole_able (reads R d ∷ ps) = whole_able ps
whole_able (changes R d ∷ ps) = (refl, whole_able ps)

-- ---- what the callee's contract binds
abbrev lifetimes : List Pass → ℕ
lifetimes [] = zero
lifetimes (life ∷ ps) = suc (lifetimes ps)
lifetimes (value R ∷ ps) = lifetimes ps
lifetimes (reads R d ∷ ps) = lifetimes ps
lifetimes (changes R d ∷ ps) = suc (lifetimes ps)

abbrev pub lives : (ps : List Pass) → Names ps → Lfts (lifetimes ps)
lives [] ns = tt
lives (life ∷ ps) ns = (ns.0 ∷ [], lives ps ns.1)
lives (value R ∷ ps) ns = lives ps ns
lives (reads R d ∷ ps) ns = lives ps ns
lives (changes R d ∷ ps) ns = (ns.0.0 ∷ [], lives ps ns.1)

abbrev pub fulls : (ps : List Pass) → Shares (lifetimes ps)
fulls [] = tt
fulls (life ∷ ps) = (full_share, fulls ps)
fulls (value R ∷ ps) = fulls ps
fulls (reads R d ∷ ps) = fulls ps
fulls (changes R d ∷ ps) = (full_share, fulls ps)

abbrev Arguments : List Pass → Type 0
Arguments [] = Unit {0}
Arguments (life ∷ ps) = Arguments ps
Arguments (value R ∷ ps) = R.Denot × Arguments ps
Arguments (reads R d ∷ ps) = Bor R.Denot × Arguments ps
Arguments (changes R d ∷ ps) = MutBor R.Denot × Arguments ps

abbrev Machine : List Pass → Type 0
Machine [] = Unit {0}
Machine (life ∷ ps) = Machine ps
Machine (value R ∷ ps) = List Val × Machine ps
Machine (reads R d ∷ ps) = List Val × Machine ps
Machine (changes R d ∷ ps) = List Val × Machine ps

module _ (b o : ℕ) where
  abbrev ref : {X : Type 0} → ℕ → GName → X → MutBor X
  ref d γ x = record { ref_ptr = (b, o + d); ghost_name = γ; now = x }

  abbrev shr : {X : Type 0} → ℕ → X → Bor X
  shr d x = record { ref_ptr = (b, o + d); now = x }

  abbrev pub arguments : (ps : List Pass) → Here ps → Names ps → Arguments ps
  arguments [] xs ns = tt
  arguments (life ∷ ps) xs ns = arguments ps xs ns.1
  arguments (value R ∷ ps) xs ns = (xs.0, arguments ps xs.1 ns)
  arguments (reads R d ∷ ps) xs ns = (shr d xs.0, arguments ps xs.1 ns)
  arguments (changes R d ∷ ps) xs ns = (ref d ns.0.1 xs.0, arguments ps xs.1 ns.1)

  abbrev pub machine : (ps : List Pass) → Spelling ps → Machine ps
  machine [] vs = tt
  machine (life ∷ ps) vs = machine ps vs
  machine (value R ∷ ps) vs = (vs.0, machine ps vs.1)
  machine (reads R d ∷ ps) vs = (vptr b (o + d) ∷ [], machine ps vs)
  machine (changes R d ∷ ps) vs = (vptr b (o + d) ∷ [], machine ps vs)

  -- the values that the callee gets
  abbrev pub operands : (ps : List Pass) → Spelling ps → List Val
  operands [] vs = []
  operands (life ∷ ps) vs = operands ps vs
  operands (value R ∷ ps) vs = vs.0 ++ operands ps vs.1
  operands (reads R d ∷ ps) vs = vptr b (o + d) ∷ operands ps vs
  operands (changes R d ∷ ps) vs = vptr b (o + d) ∷ operands ps vs

  -- what the arguments own
  abbrev pub owned_by : Lft → (ps : List Pass) → Here ps → Spelling ps → Names ps → Fml
  owned_by κ [] xs vs ns = ftrue
  owned_by κ (life ∷ ps) xs vs ns = owned_by (ns.0 ∷ []) ps xs vs ns.1
  owned_by κ (value R ∷ ps) xs vs ns = fsep (R.own_val xs.0 vs.0) (owned_by κ ps xs.1 vs.1 ns)
  owned_by κ (reads R d ∷ ps) xs vs ns =
      fsep ((ShrRef (named 0) κ R).own_val (shr d xs.0) (vptr b (o + d) ∷ [])) (owned_by κ ps xs.1 vs ns)
  owned_by κ (changes R d ∷ ps) xs vs ns =
      fsep ((MutRef (named 0) (ns.0.0 ∷ []) R).own_val (ref d ns.0.1 xs.0) (vptr b (o + d) ∷ [])) (owned_by κ ps xs.1 vs ns.1)

  -- what is said of the last values
  abbrev pub left_by : (ps : List Pass) → Names ps → Ends ps → Fml
  left_by [] ns zs = ftrue
  left_by (life ∷ ps) ns zs = left_by ps ns.1 zs
  left_by (value R ∷ ps) ns zs = fsep ftrue (left_by ps ns zs.1)
  left_by (reads R d ∷ ps) ns zs = fsep ftrue (left_by ps ns zs.1)
  left_by (changes R d ∷ ps) ns zs = fsep (fres ns.0.1 (R.coded.code zs.0)) (left_by ps ns.1 zs.1)

  module _ {M : Type 1} {𝓤 : Ura M} (𝓛 : Logic 𝓤) where
    -- what is passed by value is owned for nothing
    abbrev pub Had : (ps : List Pass) → Here ps → Spelling ps → Type 1
    Had [] xs vs = Unit {1}
    Had (life ∷ ps) xs vs = Had ps xs vs
    Had (value R ∷ ps) xs vs = ent 𝓤 (emp 𝓤) (sem 𝓛 (R.own_val xs.0 vs.0)) × Had ps xs.1 vs.1
    Had (reads R d ∷ ps) xs vs = Had ps xs.1 vs
    Had (changes R d ∷ ps) xs vs = Had ps xs.1 vs

    -- what is read is of types that can be copied
    abbrev pub AllCopied : List Pass → Type 1
    AllCopied [] = Unit {1}
    AllCopied (life ∷ ps) = AllCopied ps
    AllCopied (value R ∷ ps) = AllCopied ps
    AllCopied (reads R d ∷ ps) = Copied 𝓛 R × AllCopied ps
    AllCopied (changes R d ∷ ps) = AllCopied ps

    -- the lifetimes' tokens
    abbrev pub tokens : (ps : List Pass) → Names ps → Item 𝓤
    tokens [] ns = ‵ ftrue
    tokens (life ∷ ps) ns = ‵ (flft (ns.0 ∷ []) full_share) ⊛ tokens ps ns.1
    tokens (value R ∷ ps) ns = tokens ps ns
    tokens (reads R d ∷ ps) ns = tokens ps ns
    tokens (changes R d ∷ ps) ns = ‵ (flft (ns.0.0 ∷ []) full_share) ⊛ tokens ps ns.1

    -- what the callee is passed, and what it returns
    abbrev pub passed : Lft → (ps : List Pass) → Here ps → Spelling ps → Names ps → Item 𝓤
    passed κ ps xs vs ns = tokens ps ns ⊛ ‵ (owned_by κ ps xs vs ns)

    abbrev pub returned : (ps : List Pass) (X : RattleType) → (X.Denot → Ends ps → Type 0) → Names ps → Val → Item 𝓤
    returned ps X Φ ns w =
        later (some (λ (r : X.Denot). (tokens ps ns ⊛ ‵ (X.own_val r (w ∷ []))) ⊛ some (λ (zs : Ends ps). ‵ (left_by ps ns zs) ⊛ raw (fact 𝓤
        (Φ r zs)))))

    module _ (t : Share) where
      -- the fields in memory
      abbrev pub fields : (ps : List Pass) → Here ps → Item 𝓤
      fields [] xs = ‵ ftrue
      fields (life ∷ ps) xs = fields ps xs
      fields (value R ∷ ps) xs = fields ps xs.1
      fields (reads R d ∷ ps) xs = ‵ (part_at R t xs.0 b (o + d)) ⊛ fields ps xs.1
      fields (changes R d ∷ ps) xs = ‵ (part_at R t xs.0 b (o + d)) ⊛ fields ps xs.1

      -- what the lender keeps
      abbrev pub kept : Lft → (ps : List Pass) → Here ps → Names ps → Item 𝓤
      kept κ [] xs ns = ‵ ftrue
      kept κ (life ∷ ps) xs ns = kept (ns.0 ∷ []) ps xs ns.1
      kept κ (value R ∷ ps) xs ns = kept κ ps xs.1 ns
      kept κ (reads R d ∷ ps) xs ns = ‵ (flent κ (part_at R t xs.0 b (o + d))) ⊛ kept κ ps xs.1 ns
      kept κ (changes R d ∷ ps) xs ns = ‵ (flent (ns.0.0 ∷ []) (Body (mem R) b (o + d) ns.0.1)) ⊛ kept κ ps xs.1 ns.1

      -- what the callee gets of a field that is read, and what the lender keeps of it
      abbrev lent_read : Lft → (R : RattleType) → R.Denot → ℕ → Item 𝓤
      lent_read κ R x d =
          ‵ ((ShrRef (named 0) κ R).own_val (shr d x) (vptr b (o + d) ∷ [])) ⊛ ‵ (flent κ (part_at R t x b (o + d)))

      -- what makes a `&` to a field: the law of its type, which takes a token of the lifetime that has begun for what is read, or, before one
      -- has begun, a law that takes no token
      abbrev pub ReadableAt : Bool → (R : RattleType) → R.Denot → ℕ → Type 1
      ReadableAt true R x d = SharesFrom 𝓛 t R x (shared_of R x) []
      ReadableAt false R x d = Lent 𝓛 (part_at R t x b (o + d)) (shared_of R x b (o + d))

      -- each field that is read has it
      abbrev pub Readable : Bool → (ps : List Pass) → Here ps → Type 1
      Readable begun [] xs = Unit {1}
      Readable begun (life ∷ ps) xs = Readable true ps xs
      Readable begun (value R ∷ ps) xs = Readable begun ps xs.1
      Readable begun (reads R d ∷ ps) xs = ReadableAt begun R xs.0 d × Readable begun ps xs.1
      Readable begun (changes R d ∷ ps) xs = Readable begun ps xs.1

      -- a type that can be copied has both laws, at any share
      readable_at : (begun : Bool) (R : RattleType) (x : R.Denot) (d : ℕ) → Copied 𝓛 R → ReadableAt begun R x d
      readable_at true R x d c = c.shares t [] x
      readable_at false R x d c = c.lends t x b (o + d)

      pub copied_readable : (begun : Bool) (ps : List Pass) (xs : Here ps) → AllCopied ps → Readable begun ps xs
      copied_readable begun [] xs cs = tt
      copied_readable begun (life ∷ ps) xs cs = copied_readable true ps xs cs
      copied_readable begun (value R ∷ ps) xs cs = copied_readable begun ps xs.1 cs
      copied_readable begun (reads R d ∷ ps) xs cs = (readable_at begun R xs.0 d cs.0, copied_readable begun ps xs.1 cs.1)
      copied_readable begun (changes R d ∷ ps) xs cs = copied_readable begun ps xs.1 cs

      -- the token of the lifetime of what is read, once it has begun
      abbrev alive : Bool → Lft → Item 𝓤
      alive true κ = ‵ (flft κ full_share)
      alive false κ = ‵ ftrue

      -- a field is lent as a `&`, and the token comes back
      lends_read : (begun : Bool) (κ : Lft) (R : RattleType) (x : R.Denot) (d : ℕ) → ReadableAt begun R x d
          → ent 𝓤 (sep 𝓤 (mean 𝓛 (alive begun κ)) (sem 𝓛 (part_at R t x b (o + d)))) (mean 𝓛 (later (alive begun κ ⊛ lent_read κ R x d)))
      lends_read true κ R x d can =
          qed 𝓛 (‵ (flft κ full_share) ∷ ‵ (part_at R t x b (o + d)) ∷ []) ∵ updating ! $ move ! (1 ∷ 0 ∷ []) $
          use2 𝓛 (later (lent_read κ R x d ⊛ ‵ (flft κ full_share)))
          (lends_shr 𝓛 R (named 0) κ t x b (o + d) [] can ((κ, full_share) ∷ []) (⊑_static κ) (Incl-refl κ)) $
          await ! tt $ split ! $ move ! (1 ∷ 0 ∷ []) $ now ! $ done !
      lends_read false κ R x d can =
          qed 𝓛 (‵ ftrue ∷ ‵ (part_at R t x b (o + d)) ∷ []) ∵ updating ! $ move ! (1 ∷ []) $
          use1 𝓛 (later (lent_read κ R x d)) (lends_free 𝓛 R (named 0) κ t x b (o + d) can) $
          await ! tt $ move ! (1 ∷ 0 ∷ []) $ now ! $ done !

      -- all that a call is passed is had, and that token comes back
      lends_at : (begun : Bool) (κ : Lft) (ps : List Pass) (xs : Here ps) (vs : Spelling ps) → Had ps xs vs → Able t ps → Readable begun ps xs
          → ent 𝓤 (mean 𝓛 (alive begun κ ⊛ fields ps xs))
          (mean 𝓛 (later (alive begun κ ⊛ some (λ (ns : Names ps). passed κ ps xs vs ns ⊛ kept κ ps xs ns))))
      lends_at begun κ [] xs vs had able can =
          qed 𝓛 ((alive begun κ ⊛ ‵ ftrue) ∷ []) ∵ updating ! $ split ! $ now ! $ frame ! $
          show ! (λ (ns : Unit {0}). mean 𝓛 ((‵ ftrue ⊛ ‵ ftrue) ⊛ ‵ ftrue)) tt $ nothing ! $
          join ! $ nothing ! $ move ! (1 ∷ 0 ∷ []) $ done !
      lends_at begun κ (life ∷ ps) xs vs had able can =
          qed 𝓛 ((alive begun κ ⊛ fields ps xs) ∷ []) ∵ updating ! $ split ! $ lft_new ! tt (λ ν. move ! (0 ∷ 2 ∷ []) $ join ! $
          use1 𝓛 (later (alive true (ν ∷ []) ⊛ some (λ (ns : Names ps). passed (ν ∷ []) ps xs vs ns ⊛ kept (ν ∷ []) ps xs ns)))
          (lends_at true (ν ∷ []) ps xs vs had able can) $ await ! tt $ split ! $ move ! (2 ∷ []) $ now ! $ frame ! $ move ! (1 ∷ []) $
          pick ! (λ ns. split ! $ split ! $
          -- [tokens; what is owned; what is kept; the lifetime's token]
          move ! (3 ∷ 0 ∷ []) $ join ! $ join ! $
          show ! (λ (ms : Names (life ∷ ps)). mean 𝓛 (passed κ (life ∷ ps) xs vs ms ⊛ kept κ (life ∷ ps) xs ms)) (ν, ns) $ done !))
      lends_at begun κ (value R ∷ ps) xs vs had able can =
          qed 𝓛 ((alive begun κ ⊛ fields ps xs.1) ∷ []) ∵ updating ! $
          use1 𝓛 (later (alive begun κ ⊛ some (λ (ns : Names ps). passed κ ps xs.1 vs.1 ns ⊛ kept κ ps xs.1 ns)))
          (lends_at begun κ ps xs.1 vs.1 had.1 able can) $ await ! tt $ split ! $ now ! $ frame ! $
          pick ! (λ ns. split ! $ split ! $ move ! (1 ∷ []) $
          use0 𝓛 (‵ (R.own_val xs.0 vs.0)) had.0 $ fjoin ! $ move ! (1 ∷ 0 ∷ []) $ join ! $
          show ! (λ (ms : Names (value R ∷ ps)). mean 𝓛 (passed κ (value R ∷ ps) xs vs ms ⊛ kept κ (value R
          ∷ ps) xs ms)) ns $ done !)
      lends_at begun κ (reads R d ∷ ps) xs vs had able can =
          qed 𝓛 ((alive begun κ ⊛ fields (reads R d ∷ ps) xs) ∷ []) ∵ updating ! $ split ! $ move ! (1 ∷ []) $ split ! $ move ! (2 ∷ 0 ∷ []) $
          use2 𝓛 (later (alive begun κ ⊛ lent_read κ R xs.0 d)) (lends_read begun κ R xs.0 d can.0) $ await ! tt $ split ! $
          move ! (0 ∷ 2 ∷ []) $ join ! $
          use1 𝓛 (later (alive begun κ ⊛ some (λ (ns : Names ps). passed κ ps xs.1 vs ns ⊛ kept κ ps xs.1 ns)))
          (lends_at begun κ ps xs.1 vs had able can.1) $ await ! tt $ split ! $ now ! $ frame ! $
          pick ! (λ ns. split ! $ split ! $ move ! (3 ∷ []) $ split ! $
          -- [the reference; the lender's part; tokens; what is owned; what is kept]
          move ! (0 ∷ 3 ∷ []) $ fjoin ! $ move ! (2 ∷ 0 ∷ []) $ join ! $
          show ! (λ (ms : Names (reads R d ∷ ps)). mean 𝓛 (passed κ (reads R d ∷ ps) xs vs ms ⊛ kept κ (reads R d ∷ ps) xs ms)) ns $
          done !)
      lends_at begun κ (changes R d ∷ ps) xs vs had able can =
          qed 𝓛 ((alive begun κ ⊛ fields (changes R d ∷ ps) xs) ∷ []) ∵ updating ! $ split ! $ move ! (1 ∷ []) $ split ! $
          rewrite ! 0 (λ (s : Share). ‵ (part_at R s xs.0 b (o + d))) able.0 refl $ lft_new ! tt (λ ν. move ! (1 ∷ []) $
          use1 𝓛 (later (some (λ (γ : GName). ‵ ((MutRef (named 0) (ν ∷ []) R).own_val (ref d γ xs.0) (vptr b (o + d) ∷ []))
          ⊛ ‵ (flent (ν ∷ []) (Body (mem R) b (o + d) γ))))) (lends_ref 𝓛 R (named 0) (ν ∷ []) xs.0 b (o + d)) $ await ! tt $
          pick ! (λ γ. split ! $ move ! (4 ∷ 3 ∷ []) $ join ! $
          use1 𝓛 (later (alive begun κ ⊛ some (λ (ns : Names ps). passed κ ps xs.1 vs ns ⊛ kept κ ps xs.1 ns)))
          (lends_at begun κ ps xs.1 vs had able.1 can) $ await ! tt $ split ! $ now ! $ frame ! $ pick ! (λ ns. split ! $ split ! $
          -- [tokens; what is owned; what is kept; the reference; the lender's part; the token]
          move ! (5 ∷ 0 ∷ []) $ join ! $ move ! (3 ∷ 1 ∷ []) $ fjoin ! $ move ! (1 ∷ 0 ∷ []) $ join ! $ move ! (0 ∷ 2 ∷ 1 ∷ []) $
          show ! (λ (ms : Names (changes R d ∷ ps)). mean 𝓛 (passed κ (changes R d ∷ ps) xs vs ms ⊛ kept κ (changes R d ∷ ps) xs ms))
          ((ν, γ), ns) $ done !)))

      -- the same where no lifetime has begun
      pub lends : (κ : Lft) (ps : List Pass) (xs : Here ps) (vs : Spelling ps) → Had ps xs vs → Able t ps → Readable false ps xs
          → ent 𝓤 (mean 𝓛 (fields ps xs)) (mean 𝓛 (later (some (λ (ns : Names ps). passed κ ps xs vs ns ⊛ kept κ ps xs ns))))
      lends κ ps xs vs had able can =
          qed 𝓛 (fields ps xs ∷ []) ∵ updating ! $ nothing ! $ join ! $
          use1 𝓛 (later (alive false κ ⊛ some (λ (ns : Names ps). passed κ ps xs vs ns ⊛ kept κ ps xs ns)))
          (lends_at false κ ps xs vs had able can) $ await ! tt $ split ! $ drop ! $ now ! $ done !

      -- once the lifetimes are over, the fields are there again
      pub regains : (κ : Lft) (ps : List Pass) (xs : Here ps) (ns : Names ps) (zs : Ends ps) → Able t ps
          → ent 𝓤 (sep 𝓤 (mean 𝓛 (‵ (fdead κ) ⊛ kept κ ps xs ns)) (mean 𝓛 (tokens ps ns ⊛ ‵ (left_by ps ns zs))))
          (mean 𝓛 (later (fields ps (ended ps xs zs))))
      regains κ [] xs ns zs able =
          qed 𝓛 ((‵ (fdead κ) ⊛ ‵ ftrue) ∷ (‵ ftrue ⊛ ‵ ftrue) ∷ []) ∵ updating ! $ drop ! $ split ! $ drop ! $ now ! $ done !
      regains κ (life ∷ ps) xs ns zs able =
          qed 𝓛 ((‵ (fdead κ) ⊛ kept (ns.0 ∷ []) ps xs ns.1) ∷ (tokens (life ∷ ps) ns ⊛ ‵ (left_by ps ns.1 zs)) ∷ []) ∵ updating ! $
          split ! $ drop ! $ move ! (1 ∷ []) $ split ! $ split ! $ lft_end ! tt $
          -- [over; tokens; the last values; what is kept]
          move ! (1 ∷ 2 ∷ []) $ join ! $ move ! (1 ∷ 2 ∷ []) $ join ! $
          use2 𝓛 (later (fields ps (ended ps xs zs))) (regains (ns.0 ∷ []) ps xs ns.1 zs able) $ await ! tt $ now ! $ done !
      regains κ (value R ∷ ps) xs ns zs able =
          qed 𝓛 ((‵ (fdead κ) ⊛ kept κ ps xs.1 ns) ∷ (tokens ps ns ⊛ ‵ (left_by (value R ∷ ps) ns zs)) ∷ []) ∵ updating ! $
          move ! (1 ∷ []) $ split ! $ move ! (1 ∷ []) $ fsplit ! $ drop ! $ move ! (1 ∷ 0 ∷ []) $ join ! $ move ! (1 ∷ 0 ∷ []) $
          use2 𝓛 (later (fields ps (ended ps xs.1 zs.1))) (regains κ ps xs.1 ns zs.1 able) $ await ! tt $ now ! $ done !
      regains κ (reads R d ∷ ps) xs ns zs able =
          qed 𝓛 ((‵ (fdead κ) ⊛ kept κ (reads R d ∷ ps) xs ns) ∷ (tokens ps ns ⊛ ‵ (left_by (reads R d ∷ ps) ns zs)) ∷ []) ∵ updating ! $
          split ! $ use1 𝓛 (‵ (fdead κ) ⊛ ‵ (fdead κ)) (𝓛.lfts.dead_dup κ) $ split ! $ move ! (2 ∷ []) $ split ! $
          -- [the lender's part; what is kept; over; over; …]
          move ! (2 ∷ 0 ∷ []) $ lent_back ! tt $ move ! (2 ∷ 1 ∷ []) $ join ! $ move ! (2 ∷ []) $ split ! $ move ! (1 ∷ []) $ fsplit ! $ drop ! $
          move ! (1 ∷ 0 ∷ []) $ join ! $ move ! (1 ∷ 0 ∷ []) $
          use2 𝓛 (later (fields ps (ended ps xs.1 zs.1))) (regains κ ps xs.1 ns zs.1 able) $ await ! tt $
          move ! (1 ∷ 0 ∷ []) $ now ! $ done !
      regains κ (changes R d ∷ ps) xs ns zs able =
          qed 𝓛 ((‵ (fdead κ) ⊛ kept κ (changes R d ∷ ps) xs ns) ∷ (tokens (changes R d ∷ ps) ns ⊛ ‵ (left_by (changes R d ∷ ps) ns zs))
          ∷ []) ∵ updating ! $
          split ! $ move ! (1 ∷ []) $ split ! $ move ! (3 ∷ []) $ split ! $ split ! $ lft_end ! tt $ move ! (2 ∷ []) $ fsplit ! $
          -- [the last value; the last values; over; tokens; the lender's part; what is kept; over]
          move ! (2 ∷ 4 ∷ 0 ∷ []) $ use3 𝓛 (later (‵ (part_at R full_share zs.0 b (o + d))))
          (ref_back 𝓛 R (ns.0.0 ∷ []) ns.0.1 zs.0 b (o + d)) $ await ! tt $
          rewrite ! 0 (λ (s : Share). ‵ (part_at R s zs.0 b (o + d))) (sym able.0) refl $
          -- [the field; the last values; tokens; what is kept; over]
          move ! (2 ∷ 1 ∷ []) $ join ! $ move ! (3 ∷ 2 ∷ []) $ join ! $ move ! (0 ∷ 1 ∷ []) $
          use2 𝓛 (later (fields ps (ended ps xs.1 zs.1))) (regains κ ps xs.1 ns.1 zs.1 able.1) $ await ! tt $
          move ! (1 ∷ 0 ∷ []) $ now ! $ done !

      -- the fields that a call is lent lie in a share of h of R, and in that of `into zs` once it has left zs
      pub record LoanAt (R : RattleType) (ps : List Pass) (h : R.Denot) (xs : Here ps) (into : Ends ps → R.Denot) : Type 2 where
        pub rest : SProp 𝓤
        pub out : ent 𝓤 (sem 𝓛 (part_at R t h b o)) (sep 𝓤 (mean 𝓛 (fields ps xs)) rest)
        pub back : (zs : Ends ps) → ent 𝓤 (sep 𝓤 (mean 𝓛 (fields ps (ended ps xs zs))) rest) (sem 𝓛 (part_at R t (into zs) b o))

    -- the same of the whole of h
    abbrev pub Loan : (R : RattleType) (ps : List Pass) (h : R.Denot) (xs : Here ps) (into : Ends ps → R.Denot) → Type 2
    Loan = LoanAt full_share

module _ {M : Type 1} {𝓤 : Ura M} {𝓛 : Logic 𝓤} {K : Type 0} {Γ : List (Item 𝓤)} {E : Env 𝓤 𝓛.H} {C : Calls 𝓤 𝓛.H}
    {Λ : Loops 𝓤 𝓛.H} {q : Post 𝓤 𝓛.H} {d : Place} {g : Callee} {os : List Operand} {rest : Code} where
  -- a call that is passed values and lent fields of a share of a struct
  open 𝓛 use {H}

  pub calls_passing_at : K → FmC 𝓤 H 𝓛.laws C → (b o : ℕ) (u : Share) (R : RattleType) (ps : List Pass) (X : RattleType) {δ : Ty} (s : Spelt X δ)
      (Φ : X.Denot → Ends ps → Type 0) {h : R.Denot} {xs : Here ps} {into : Ends ps → R.Denot} (vs : Spelling ps)
      → LoanAt b o 𝓛 u R ps h xs into → Had b o 𝓛 ps xs vs → Able u ps → Readable b o 𝓛 u false ps xs
      → ((κ : Lft) (ns : Names ps) → ent 𝓤 (mean 𝓛 (passed b o 𝓛 κ ps xs vs ns)) (C g (operands b o ps vs) (λ w. mean 𝓛
      (returned b o 𝓛 ps X Φ ns w))))
      → ((i j : Item 𝓤) → Opds K 𝓛 (i ∷ j ∷ Γ) E os (operands b o ps vs))
      → ((r : X.Denot) (zs : Ends ps) → Is X r (s.val r ∷ []) → Φ r zs
      → Seq K 𝓛 (‵ (part_at R u (into zs) b o) ∷ Γ) (lands C Λ E d (s.val r) rest q))
      → Seq K 𝓛 (‵ (part_at R u h b o) ∷ Γ) (runs C Λ E (seq (call g os d) rest) q)
  calls_passing_at t fm b o u R ps X s Φ {h} {xs} {into} vs l had able can gives opds k =
      lft_new t tt (λ ν. lft_end t tt $ move t (1 ∷ []) $
      use1 𝓛 (fields b o 𝓛 u ps xs ⊛ raw l.rest) l.out $ split t $
      use1 𝓛 (later (some (λ (ns : Names ps). passed b o 𝓛 (ν ∷ []) ps xs vs ns ⊛ kept b o 𝓛 u (ν ∷ []) ps xs ns)))
      (lends b o 𝓛 u (ν ∷ []) ps xs vs had able can) $ await t tt $ pick t (λ ns. split t $
      -- [what is passed; what is kept; the rest of the struct; over; …]
      move t (3 ∷ 1 ∷ []) $ join t $ move t (0 ∷ 2 ∷ []) $ join t $ move t (1 ∷ []) $
      calls_from t fm (passed b o 𝓛 (ν ∷ []) ps xs vs ns) (operands b o ps vs) (λ w. mean 𝓛 (returned b o 𝓛 ps X Φ ns w)) (gives (ν
      ∷ []) ns) (opds _ _) (λ w.
      use1 𝓛 (returned b o 𝓛 ps X Φ ns w) (id⊢ 𝓤 _) $ await t tt $ pick t (λ r. split t $ move t (1 ∷ []) $ pick t (λ zs. split t $
      move t (1 ∷ []) $ heard t (Φ r zs) (λ φ. move t (1 ∷ []) $ split t $ move t (1 ∷ []) $
      facts t X (Is X) (shows 𝓛 X) r (w ∷ []) (λ is. regoal t (λ (v : Val). lands C Λ E d v rest q) (ap only (s.tells r (w ∷ []) is)) refl $
      -- [tokens; the last values; what is kept, with the rest of the struct; …]
      join t $ move t (1 ∷ []) $ split t $ move t (0 ∷ 2 ∷ []) $ use2 𝓛 (later (fields b o 𝓛 u ps (ended ps xs zs))) (regains b o 𝓛 u (ν
      ∷ []) ps xs ns zs able) $
      await t tt $ use2 𝓛 (‵ (part_at R u (into zs) b o)) (l.back zs) $ k r zs (subst (Is X r) (s.tells r (w ∷ []) is) is) φ)))))))

  -- the same where the whole of it is there
  pub calls_passing : K → FmC 𝓤 H 𝓛.laws C → (b o : ℕ) (R : RattleType) (ps : List Pass) (X : RattleType) {δ : Ty} (s : Spelt X δ)
      (Φ : X.Denot → Ends ps → Type 0) {h : R.Denot} {xs : Here ps} {into : Ends ps → R.Denot} (vs : Spelling ps)
      → Loan b o 𝓛 R ps h xs into → Had b o 𝓛 ps xs vs → Readable b o 𝓛 full_share false ps xs
      → ((κ : Lft) (ns : Names ps) → ent 𝓤 (mean 𝓛 (passed b o 𝓛 κ ps xs vs ns)) (C g (operands b o ps vs) (λ w. mean 𝓛
      (returned b o 𝓛 ps X Φ ns w))))
      → ((i j : Item 𝓤) → Opds K 𝓛 (i ∷ j ∷ Γ) E os (operands b o ps vs))
      → ((r : X.Denot) (zs : Ends ps) → Is X r (s.val r ∷ []) → Φ r zs
      → Seq K 𝓛 (‵ (part_at R full_share (into zs) b o) ∷ Γ) (lands C Λ E d (s.val r) rest q))
      → Seq K 𝓛 (‵ (part_at R full_share h b o) ∷ Γ) (runs C Λ E (seq (call g os d) rest) q)
  calls_passing t fm b o R ps X s Φ vs l had = calls_passing_at t fm b o full_share R ps X s Φ vs l had (whole_able ps)
