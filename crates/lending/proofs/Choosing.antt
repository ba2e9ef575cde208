-- Some of a struct's fields are lent to a call, and the others stay.
use Prim.Native.Nat.{ℕ, suc, ◌+◌, ◌-◌}
use mathlib.Core.List.{List, [], ◌∷◌, ◌++◌}
use lib.ListN.{replicate}
use seplogic.Ra.Ura.{Ura}
use base.Logic.{SProp, ent, sep, wand, emp, id⊢, apply∗}
use base.Fml.{Fml, Share, ftrue, fsep}
use types.Logic.{Logic, sem}
use types.Kit.{Item, ‵, raw, ◌⊛◌, mean, ◌$◌, ◌∵◌, !, qed, move, drop, split, join, use0, use1, use2, fsplit, fjoin, done}
use denote.RattleType.{RattleType, Denots}
use denote.Memory.{part_at}
use Rattle.lending.proofs.Passing.{Pass, life, value, reads, changes, Here, Ends, ended, fields, LoanAt}

-- what becomes of a field in a call; the first that is read begins the lifetime of all that are
pub data Choice : Type 0 where
  stays : Choice
  is_read_first : Choice
  is_read : Choice
  is_changed : Choice

-- from field k on, the next of the fields fs becomes c, and the later ones are read
abbrev choosing : Choice → ℕ → List ℕ → List Choice
choosing c k [] = []
choosing c k (f ∷ fs) = replicate (f - k) stays ++ (c ∷ choosing is_read (suc f) fs)

-- those fields are read, and the others stay
abbrev pub only-read : List ℕ → List Choice
only-read = choosing is_read_first 0

-- a field's type, and how far into the struct it lies
abbrev pub Placed : Type 1
Placed = RattleType × ℕ

abbrev pub AllHere : List Placed → Type 0
AllHere [] = Unit {0}
AllHere (F ∷ Fs) = F.0.Denot × AllHere Fs

abbrev values : List RattleType → List Pass
values [] = []
values (R ∷ Rs) = value R ∷ values Rs

-- the chosen fields, then further values
abbrev pub chosen : List Placed → List Choice → List RattleType → List Pass
chosen [] cs Rs = values Rs
chosen (F ∷ Fs) [] Rs = values Rs
chosen (F ∷ Fs) (stays ∷ cs) Rs = chosen Fs cs Rs
chosen (F ∷ Fs) (is_read_first ∷ cs) Rs = life ∷ reads F.0 F.1 ∷ chosen Fs cs Rs
chosen (F ∷ Fs) (is_read ∷ cs) Rs = reads F.0 F.1 ∷ chosen Fs cs Rs
chosen (F ∷ Fs) (is_changed ∷ cs) Rs = changes F.0 F.1 ∷ chosen Fs cs Rs

abbrev values_here : (Rs : List RattleType) → Denots Rs → Here (values Rs)
values_here [] ys = tt
values_here (R ∷ Rs) ys = (ys.0, values_here Rs ys.1)

abbrev pub chosen_here : (Fs : List Placed) (cs : List Choice) (Rs : List RattleType) → AllHere Fs → Denots Rs → Here (chosen Fs cs Rs)
chosen_here [] cs Rs fs ys = values_here Rs ys
chosen_here (F ∷ Fs) [] Rs fs ys = values_here Rs ys
chosen_here (F ∷ Fs) (stays ∷ cs) Rs fs ys = chosen_here Fs cs Rs fs.1 ys
chosen_here (F ∷ Fs) (is_read_first ∷ cs) Rs fs ys = (fs.0, chosen_here Fs cs Rs fs.1 ys)
chosen_here (F ∷ Fs) (is_read ∷ cs) Rs fs ys = (fs.0, chosen_here Fs cs Rs fs.1 ys)
chosen_here (F ∷ Fs) (is_changed ∷ cs) Rs fs ys = (fs.0, chosen_here Fs cs Rs fs.1 ys)

-- all fields after the call
abbrev pub changed : (Fs : List Placed) (cs : List Choice) (Rs : List RattleType) → AllHere Fs → Ends (chosen Fs cs Rs) → AllHere Fs
changed [] cs Rs fs zs = tt
changed (F ∷ Fs) [] Rs fs zs = fs
changed (F ∷ Fs) (stays ∷ cs) Rs fs zs = (fs.0, changed Fs cs Rs fs.1 zs)
changed (F ∷ Fs) (is_read_first ∷ cs) Rs fs zs = (fs.0, changed Fs cs Rs fs.1 zs.1)
changed (F ∷ Fs) (is_read ∷ cs) Rs fs zs = (fs.0, changed Fs cs Rs fs.1 zs.1)
changed (F ∷ Fs) (is_changed ∷ cs) Rs fs zs = (zs.0, changed Fs cs Rs fs.1 zs.1)

module _ (b o : ℕ) (t : Share) where
  -- a share of all fields in memory
  abbrev pub all_fields : (Fs : List Placed) → AllHere Fs → Fml
  all_fields [] fs = ftrue
  all_fields (F ∷ Fs) fs = fsep (part_at F.0 t fs.0 b (o + F.1)) (all_fields Fs fs.1)

  -- those that stay
  abbrev pub staying : (Fs : List Placed) → List Choice → AllHere Fs → Fml
  staying [] cs fs = ftrue
  staying (F ∷ Fs) [] fs = all_fields (F ∷ Fs) fs
  staying (F ∷ Fs) (stays ∷ cs) fs = fsep (part_at F.0 t fs.0 b (o + F.1)) (staying Fs cs fs.1)
  staying (F ∷ Fs) (is_read_first ∷ cs) fs = staying Fs cs fs.1
  staying (F ∷ Fs) (is_read ∷ cs) fs = staying Fs cs fs.1
  staying (F ∷ Fs) (is_changed ∷ cs) fs = staying Fs cs fs.1

  module _ {M : Type 1} {𝓤 : Ura M} (𝓛 : Logic 𝓤) (Rs : List RattleType) (ys : Denots Rs) where
    no_fields : (Ss : List RattleType) (ws : Denots Ss) → ent 𝓤 (emp 𝓤) (mean 𝓛 (fields b o 𝓛 t (values Ss) (values_here Ss ws)))
    no_fields [] ws = id⊢ 𝓤 (emp 𝓤)
    no_fields (S ∷ Ss) ws = no_fields Ss ws.1

    pub choose : (Fs : List Placed) (cs : List Choice) (fs : AllHere Fs)
        → ent 𝓤 (sem 𝓛 (all_fields Fs fs))
        (sep 𝓤 (mean 𝓛 (fields b o 𝓛 t (chosen Fs cs Rs) (chosen_here Fs cs Rs fs ys))) (sem 𝓛 (staying Fs cs fs)))
    choose [] cs fs =
        qed 𝓛 (‵ ftrue ∷ []) ∵ use0 𝓛 (fields b o 𝓛 t (values Rs) (values_here Rs ys)) (no_fields Rs ys) $ done !
    choose (F ∷ Fs) [] fs =
        qed 𝓛 (‵ (all_fields (F ∷ Fs) fs) ∷ []) ∵ use0 𝓛 (fields b o 𝓛 t (values Rs) (values_here Rs ys)) (no_fields Rs ys) $ done !
    choose (F ∷ Fs) (stays ∷ cs) fs =
        qed 𝓛 (‵ (all_fields (F ∷ Fs) fs) ∷ []) ∵ fsplit ! $ move ! (1 ∷ []) $
        use1 𝓛 (fields b o 𝓛 t (chosen Fs cs Rs) (chosen_here Fs cs Rs fs.1 ys) ⊛ ‵ (staying Fs cs fs.1)) (choose Fs cs fs.1) $ split ! $
        move ! (2 ∷ 1 ∷ []) $ fjoin ! $ move ! (1 ∷ 0 ∷ []) $ done !
    choose (F ∷ Fs) (is_read_first ∷ cs) fs =
        qed 𝓛 (‵ (all_fields (F ∷ Fs) fs) ∷ []) ∵ fsplit ! $ move ! (1 ∷ []) $
        use1 𝓛 (fields b o 𝓛 t (chosen Fs cs Rs) (chosen_here Fs cs Rs fs.1 ys) ⊛ ‵ (staying Fs cs fs.1)) (choose Fs cs fs.1) $ split ! $
        move ! (2 ∷ 0 ∷ []) $ join ! $ done !
    choose (F ∷ Fs) (is_read ∷ cs) fs =
        qed 𝓛 (‵ (all_fields (F ∷ Fs) fs) ∷ []) ∵ fsplit ! $ move ! (1 ∷ []) $
        use1 𝓛 (fields b o 𝓛 t (chosen Fs cs Rs) (chosen_here Fs cs Rs fs.1 ys) ⊛ ‵ (staying Fs cs fs.1)) (choose Fs cs fs.1) $ split ! $
        move ! (2 ∷ 0 ∷ []) $ join ! $ done !
    choose (F ∷ Fs) (is_changed ∷ cs) fs =
        qed 𝓛 (‵ (all_fields (F ∷ Fs) fs) ∷ []) ∵ fsplit ! $ move ! (1 ∷ []) $
        use1 𝓛 (fields b o 𝓛 t (chosen Fs cs Rs) (chosen_here Fs cs Rs fs.1 ys) ⊛ ‵ (staying Fs cs fs.1)) (choose Fs cs fs.1) $ split ! $
        move ! (2 ∷ 0 ∷ []) $ join ! $ done !

    abbrev after : (Fs : List Placed) (cs : List Choice) (fs : AllHere Fs) → Ends (chosen Fs cs Rs) → Item 𝓤
    after Fs cs fs zs = fields b o 𝓛 t (chosen Fs cs Rs) (ended (chosen Fs cs Rs) (chosen_here Fs cs Rs fs ys) zs)

    pub gather : (Fs : List Placed) (cs : List Choice) (fs : AllHere Fs) (zs : Ends (chosen Fs cs Rs))
        → ent 𝓤 (sep 𝓤 (mean 𝓛 (after Fs cs fs zs)) (sem 𝓛 (staying Fs cs fs))) (sem 𝓛 (all_fields Fs (changed Fs cs Rs fs zs)))
    gather [] cs fs zs = qed 𝓛 (after [] cs fs zs ∷ ‵ ftrue ∷ []) ∵ drop ! $ done !
    gather (F ∷ Fs) [] fs zs = qed 𝓛 (after (F ∷ Fs) [] fs zs ∷ ‵ (all_fields (F ∷ Fs) fs) ∷ []) ∵ drop ! $ done !
    gather (F ∷ Fs) (stays ∷ cs) fs zs =
        qed 𝓛 (after Fs cs fs.1 zs ∷ ‵ (staying (F ∷ Fs) (stays ∷ cs) fs) ∷ []) ∵ move ! (1 ∷ []) $ fsplit ! $ move ! (2 ∷ 1 ∷ []) $
        use2 𝓛 (‵ (all_fields Fs (changed Fs cs Rs fs.1 zs))) (gather Fs cs fs.1 zs) $ move ! (1 ∷ 0 ∷ []) $ fjoin ! $ done !
    gather (F ∷ Fs) (is_read_first ∷ cs) fs zs =
        qed 𝓛 (after (F ∷ Fs) (is_read_first ∷ cs) fs zs ∷ ‵ (staying Fs cs fs.1) ∷ []) ∵ split ! $ move ! (1 ∷ 2 ∷ []) $
        use2 𝓛 (‵ (all_fields Fs (changed Fs cs Rs fs.1 zs.1))) (gather Fs cs fs.1 zs.1) $ move ! (1 ∷ 0 ∷ []) $ fjoin ! $ done !
    gather (F ∷ Fs) (is_read ∷ cs) fs zs =
        qed 𝓛 (after (F ∷ Fs) (is_read ∷ cs) fs zs ∷ ‵ (staying Fs cs fs.1) ∷ []) ∵ split ! $ move ! (1 ∷ 2 ∷ []) $
        use2 𝓛 (‵ (all_fields Fs (changed Fs cs Rs fs.1 zs.1))) (gather Fs cs fs.1 zs.1) $ move ! (1 ∷ 0 ∷ []) $ fjoin ! $ done !
    gather (F ∷ Fs) (is_changed ∷ cs) fs zs =
        qed 𝓛 (after (F ∷ Fs) (is_changed ∷ cs) fs zs ∷ ‵ (staying Fs cs fs.1) ∷ []) ∵ split ! $ move ! (1 ∷ 2 ∷ []) $
        use2 𝓛 (‵ (all_fields Fs (changed Fs cs Rs fs.1 zs.1))) (gather Fs cs fs.1 zs.1) $ move ! (1 ∷ 0 ∷ []) $ fjoin ! $ done !

    -- a share of a struct that comes apart into its fields, and is whole again of any, lends the chosen ones
    pub loan_of : (R : RattleType) (Fs : List Placed) (cs : List Choice) (whole : AllHere Fs → R.Denot) (Back : SProp 𝓤) (h : R.Denot)
        (fs : AllHere Fs)
        → ent 𝓤 (sem 𝓛 (part_at R t h b o)) (sep 𝓤 (sem 𝓛 (all_fields Fs fs)) Back)
        → ((gs : AllHere Fs) → ent 𝓤 Back (wand 𝓤 (sem 𝓛 (all_fields Fs gs)) (sem 𝓛 (part_at R t (whole gs) b o))))
        → LoanAt b o 𝓛 t R (chosen Fs cs Rs) h (chosen_here Fs cs Rs fs ys) (λ zs. whole (changed Fs cs Rs fs zs))
    loan_of R Fs cs whole Back h fs apart again = record {
      rest = sep 𝓤 (sem 𝓛 (staying Fs cs fs)) Back;
      out =
          qed 𝓛 (‵ (part_at R t h b o) ∷ []) ∵ use1 𝓛 (‵ (all_fields Fs fs) ⊛ raw Back) apart $ split ! $
          use1 𝓛 (fields b o 𝓛 t (chosen Fs cs Rs) (chosen_here Fs cs Rs fs ys) ⊛ ‵ (staying Fs cs fs)) (choose Fs cs fs) $ split ! $ done !;
      back = λ zs. let gs = changed Fs cs Rs fs zs in
          qed 𝓛 (after Fs cs fs zs ∷ (‵ (staying Fs cs fs) ⊛ raw Back) ∷ []) ∵ move ! (1 ∷ []) $ split ! $ move ! (2 ∷ 0 ∷ []) $
          use2 𝓛 (‵ (all_fields Fs gs)) (gather Fs cs fs zs) $ move ! (1 ∷ []) $
          use1 𝓛 (raw (wand 𝓤 (sem 𝓛 (all_fields Fs gs)) (sem 𝓛 (part_at R t (whole gs) b o)))) (again gs) $ move ! (1 ∷ 0 ∷ []) $
          use2 𝓛 (‵ (part_at R t (whole gs) b o)) (apply∗ 𝓤 (sem 𝓛 (all_fields Fs gs)) (sem 𝓛 (part_at R t
          (whole gs) b o))) $ done !;
    }
