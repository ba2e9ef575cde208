-- A value that lies within another in memory, as a field of a struct: it is read and written where it lies.
use mathlib.Core.Path.{◌≡◌, refl, subst}
use Prim.Native.Nat.{ℕ}
use mathlib.Core.List.{List, [], ◌∷◌}
use lib.Dec.{T as Holds}
use seplogic.Ra.Ura.{Ura}
use base.Fraction.{full_share}
use mir.Syntax.{Ty}
use mir.Raw.{raw as raw_ty}
use mir.Val.{Val, WT, has_ty}
use base.Logic.{ent, sep, wand, ex, id⊢, via, comm∗, mono_r, wand_i, apply∗, ex_i, guard_e}
use base.Fml.{Share, fat}
use types.Logic.{Logic, sem}
use types.Kit.{Item, ‵, raw, some, given, ◌⊛◌, mean, ⋆, nth, del, put, pull, unpull, fill, Goal, Seq, ◌$◌, ◌∵◌, !, qed, by, move}
use types.Kit.{drop, use1, use2, split, pick, learn, check, assume, frame, rewrite, done}
use types.Run.{Reads, Writes, well_typed}
use denote.RattleType.{RattleType}
use denote.Laws.{Is, Tells, Makes, shows}
use denote.Memory.{part_at, part_of, lone}
use denote.Struct.Struct.{Struct}
use denote.Struct.Declared.{Declared, row, shape}
use denote.Steps.{peeks, owned}
use borrow.Table.OneValue.{One, part_out_at, part_in_at}

module _ {M : Type 1} {𝓤 : Ura M} (𝓛 : Logic 𝓤) where
  -- f of F lies at o' within h of R at o, and where f' is put there, h' lies
  pub record Within (q : Share) (R F : RattleType) (h h' : R.Denot) (f f' : F.Denot) (b o o' : ℕ) : Type 1 where
    pub cut : ent 𝓤 (sem 𝓛 (part_at R q h b o))
        (sep 𝓤 (sem 𝓛 (part_at F q f b o')) (wand 𝓤 (sem 𝓛 (part_at F q f' b o')) (sem 𝓛 (part_at R q h' b o))))

module _ {M : Type 1} {𝓤 : Ura M} (𝓛 : Logic 𝓤) (q : Share) where
  -- a struct within another, as its author's record
  pub within_record : (R : RattleType) (T : Declared) (h h' : R.Denot) (c c' : T.D) (b o o' : ℕ)
      → Within 𝓛 q R (Struct (shape T)) h h' (T.to c) (T.to c') b o o' → Within 𝓛 q R (row T) h h' c c' b o o'
  unfolding part_of
  within_record R T h h' c c' b o o' w = record { cut = w.cut }

-- what a type says of its machine value
pub record Spelt (F : RattleType) (δ : Ty) : Type 2 where
  pub val : F.Denot → Val
  pub one : One F
  pub same : raw_ty δ ≡ raw_ty (lone F.mir)
  pub tells : Tells F (Is F) (λ x. val x ∷ [])

module _ {M : Type 1} {𝓤 : Ura M} (𝓛 : Logic 𝓤) (q : Share) (F : RattleType) (δ : Ty) (s : Spelt F δ)
    (f : F.Denot) (b o : ℕ) where
  -- memory as a cell with what the value owns, and back
  pub cell_out : ent 𝓤 (sem 𝓛 (part_at F q f b o))
      (mean 𝓛 (given (Is F f (s.val f ∷ [])) (‵ (fat q δ b o (s.val f)) ⊛ ‵ (F.own_val f (s.val f ∷ [])))))
  cell_out =
      qed 𝓛 (‵ (part_at F q f b o) ∷ []) ∵
      use1 𝓛 (some (λ (v : Val). ‵ (fat q δ b o v) ⊛ ‵ (F.own_val f (v ∷ [])))) (part_out_at 𝓛 F s.one q f b o δ s.same) $
      pick ! (λ v. split ! $ move ! (1 ∷ []) $ peeks ! F (Is F) (shows 𝓛 F) f (v ∷ []) (λ is.
      rewrite ! 0 (λ (us : List Val). ‵ (F.own_val f us)) (s.tells f (v ∷ []) is) refl $
      rewrite ! 1 (λ (us : List Val). ‵ (fat q δ b o (denote.Steps.only us))) (s.tells f (v ∷ []) is) refl $
      check ! (subst (Is F f) (s.tells f (v ∷ []) is) is) $ move ! (1 ∷ 0 ∷ []) $ done !))

  pub cell_in : ent 𝓤 (mean 𝓛 (‵ (fat q δ b o (s.val f)) ⊛ ‵ (F.own_val f (s.val f ∷ [])))) (sem 𝓛 (part_at F q f b o))
  cell_in = part_in_at 𝓛 F s.one q f b o δ s.same (s.val f)

module _ {M : Type 1} {𝓤 : Ura M} (𝓛 : Logic 𝓤) (Γ : List (Item 𝓤)) where
  -- the cell of a value within entry n, and the entry back for it
  open 𝓛 use {H}

  lent_out : (n : ℕ) {q : Share} {R F : RattleType} {h : R.Denot} {f : F.Denot} {b o o' : ℕ} (δ : Ty) (s : Spelt F δ)
      → nth 𝓛 n Γ ≡ ‵ (part_at R q h b o) → Within 𝓛 q R F h h f f b o o'
      → ent 𝓤 (⋆ 𝓛 Γ) (mean 𝓛 (given (Is F f (s.val f ∷ [])) (‵ (fat q δ b o' (s.val f)) ⊛ raw (wand 𝓤 (H.at q δ b o' (s.val f))
      (⋆ 𝓛 Γ)))))
  lent_out n {q} {R} {F} {h} {f} {b} {o} {o'} δ s e w =
      via 𝓤 (sep 𝓤 (sem 𝓛 (part_at R q h b o)) (⋆ 𝓛 (del 𝓛 n Γ)))
      (subst (λ (j : Item 𝓤). ent 𝓤 (⋆ 𝓛 Γ) (sep 𝓤 (mean 𝓛 j) (⋆ 𝓛 (del 𝓛 n Γ)))) e (pull 𝓛 n Γ))
      (qed 𝓛 (‵ (part_at R q h b o) ∷ raw (⋆ 𝓛 (del 𝓛 n Γ)) ∷ []) ∵
      use1 𝓛 (‵ (part_at F q f b o') ⊛ raw (wand 𝓤 (sem 𝓛 (part_at F q f b o')) (sem 𝓛 (part_at R q h b o)))) w.cut $ split ! $
      use1 𝓛 (given (Is F f (s.val f ∷ [])) (‵ (fat q δ b o' (s.val f)) ⊛ ‵ (F.own_val f (s.val f ∷ [])))) (cell_out 𝓛 q F δ s f b o') $
      learn ! (λ is. split ! $ check ! is $ frame ! $ assume ! (‵ (fat q δ b o' (s.val f))) $
      use2 𝓛 (‵ (part_at F q f b o')) (cell_in 𝓛 q F δ s f b o') $
      use2 𝓛 (‵ (part_at R q h b o)) (apply∗ 𝓤 (sem 𝓛 (part_at F q f b o')) (sem 𝓛 (part_at R q h b o))) $
      by ! (subst (λ (j : Item 𝓤). ent 𝓤 (sep 𝓤 (mean 𝓛 j) (⋆ 𝓛 (del 𝓛 n Γ))) (⋆ 𝓛 Γ)) e (unpull 𝓛 n Γ))))

module _ {M : Type 1} {𝓤 : Ura M} {𝓛 : Logic 𝓤} {K : Type 0} {Γ : List (Item 𝓤)} where
  -- a value within entry n is read
  open 𝓛 use {H}

  pub look_within : K → (n : ℕ) {q : Share} {R F : RattleType} {h : R.Denot} {f : F.Denot} {b o o' : ℕ} {δ : Ty} (s : Spelt F δ)
      → nth 𝓛 n Γ ≡ ‵ (part_at R q h b o) → Within 𝓛 q R F h h f f b o o' → Reads K 𝓛 Γ δ b o' (s.val f)
  look_within t n {q} {R} {F} {h} {f} {b} {o} {o'} {δ} s e w = record {
    go = λ Kt k.
        via 𝓤 (sep 𝓤 (H.at q δ b o' (s.val f)) (wand 𝓤 (H.at q δ b o' (s.val f)) (⋆ 𝓛 Γ)))
        (via 𝓤 (mean 𝓛 (given (Is F f (s.val f ∷ [])) (‵ (fat q δ b o' (s.val f)) ⊛ raw (wand 𝓤 (H.at q δ b o' (s.val f)) (⋆ 𝓛 Γ)))))
        (lent_out 𝓛 Γ n δ s e w) (guard_e 𝓤 (Is F f (s.val f ∷ [])) (sep 𝓤 (H.at q δ b o' (s.val f)) (wand 𝓤 (H.at q δ b o' (s.val f))
        (⋆ 𝓛 Γ))) (λ _. id⊢ 𝓤 _)))
        (via 𝓤 (sep 𝓤 (H.at q δ b o' (s.val f)) (wand 𝓤 (H.at q δ b o' (s.val f)) (Kt (s.val f))))
        (mono_r 𝓤 (H.at q δ b o' (s.val f)) (wand_i 𝓤 (wand 𝓤 (H.at q δ b o' (s.val f)) (⋆ 𝓛 Γ)) (H.at q δ b o' (s.val f)) (Kt (s.val f))
        (via 𝓤 (sep 𝓤 (H.at q δ b o' (s.val f)) (wand 𝓤 (H.at q δ b o' (s.val f)) (⋆ 𝓛 Γ)))
        (comm∗ 𝓤 (wand 𝓤 (H.at q δ b o' (s.val f)) (⋆ 𝓛 Γ)) (H.at q δ b o' (s.val f)))
        (via 𝓤 (⋆ 𝓛 Γ) (apply∗ 𝓤 (H.at q δ b o' (s.val f)) (⋆ 𝓛 Γ)) k))))
        (via 𝓤 (ex 𝓤 (λ (u : Val). sep 𝓤 (H.at q δ b o' u) (wand 𝓤 (H.at q δ b o' u) (Kt u))))
        (ex_i 𝓤 (λ (u : Val). sep 𝓤 (H.at q δ b o' u) (wand 𝓤 (H.at q δ b o' u) (Kt u))) (s.val f))
        (ex_i 𝓤 (λ (r : Share). ex 𝓤 (λ (u : Val). sep 𝓤 (H.at r δ b o' u) (wand 𝓤 (H.at r δ b o' u) (Kt u)))) q)));
  }

  -- what is read is of its type
  pub typed_within : K → (n : ℕ) {q : Share} {R F : RattleType} {h : R.Denot} {f : F.Denot} {b o o' : ℕ} {δ : Ty} {G : Goal 𝓤 H} (s : Spelt F δ)
      → nth 𝓛 n Γ ≡ ‵ (part_at R q h b o) → Within 𝓛 q R F h h f f b o o'
      → (Holds (has_ty δ (s.val f)) × WT (s.val f) → Is F f (s.val f ∷ []) → Seq K 𝓛 Γ G) → Seq K 𝓛 Γ G
  typed_within t n {q} {R} {F} {h} {f} {b} {o} {o'} {δ} {G} s e w k = record {
    prf = via 𝓤 (mean 𝓛 (given (Is F f (s.val f ∷ [])) (‵ (fat q δ b o' (s.val f)) ⊛ raw (wand 𝓤 (H.at q δ b o' (s.val f)) (⋆ 𝓛 Γ)))))
        (lent_out 𝓛 Γ n δ s e w)
        (qed 𝓛 (given (Is F f (s.val f ∷ [])) (‵ (fat q δ b o' (s.val f)) ⊛ raw (wand 𝓤 (H.at q δ b o' (s.val f)) (⋆ 𝓛 Γ))) ∷ []) ∵
        learn ! (λ is. split ! $
        well_typed ! (λ wt. use2 𝓛 (raw (⋆ 𝓛 Γ)) (apply∗ 𝓤 (H.at q δ b o' (s.val f)) (⋆ 𝓛 Γ)) $ by ! (k wt is).prf)));
  }

  -- a value within entry n is written
  pub store_within : K → (n : ℕ) {R F : RattleType} {h h' : R.Denot} {f f' : F.Denot} {b o o' : ℕ} {δ : Ty} (s : Spelt F δ)
      → Makes 𝓛 F (Is F) → Is F f' (s.val f' ∷ []) → Holds (has_ty δ (s.val f')) × WT (s.val f')
      → nth 𝓛 n Γ ≡ ‵ (part_at R full_share h b o) → Within 𝓛 full_share R F h h' f f' b o o'
      → Writes K 𝓛 Γ δ b o' (s.val f') (put 𝓛 n (‵ (part_at R full_share h' b o)) Γ)
  store_within t n {R} {F} {h} {h'} {f} {f'} {b} {o} {o'} {δ} s makes is wt e w = record {
    go = λ P k.
        via 𝓤 (sep 𝓤 (sem 𝓛 (part_at R full_share h b o)) (⋆ 𝓛 (del 𝓛 n Γ)))
        (subst (λ (j : Item 𝓤). ent 𝓤 (⋆ 𝓛 Γ) (sep 𝓤 (mean 𝓛 j) (⋆ 𝓛 (del 𝓛 n Γ)))) e (pull 𝓛 n Γ))
        (qed 𝓛 (‵ (part_at R full_share h b o) ∷ raw (⋆ 𝓛 (del 𝓛 n Γ)) ∷ []) ∵ check ! wt $
        use1 𝓛 (‵ (part_at F full_share f b o') ⊛ raw (wand 𝓤 (sem 𝓛 (part_at F full_share f' b o')) (sem 𝓛 (part_at R full_share h' b o))))
        w.cut $ split ! $
        use1 𝓛 (given (Is F f (s.val f ∷ [])) (‵ (fat full_share δ b o' (s.val f)) ⊛ ‵ (F.own_val f (s.val f ∷ []))))
        (cell_out 𝓛 full_share F δ s f b o') $
        learn ! (λ _. split ! $ move ! (1 ∷ []) $ drop ! $
        use1 𝓛 (raw (H.room δ b o')) (𝓛.laws.at_room δ b o' (s.val f)) $ frame ! $ assume ! (‵ (fat full_share δ b o' (s.val f'))) $
        owned ! F (Is F) makes f' (s.val f' ∷ []) is $ move ! (1 ∷ 0 ∷ []) $
        use2 𝓛 (‵ (part_at F full_share f' b o')) (cell_in 𝓛 full_share F δ s f' b o') $
        use2 𝓛 (‵ (part_at R full_share h' b o)) (apply∗ 𝓤 (sem 𝓛 (part_at F full_share f' b o')) (sem 𝓛 (part_at R full_share h' b o))) $
        by ! (via 𝓤 (⋆ 𝓛 (put 𝓛 n (‵ (part_at R full_share h' b o)) Γ)) (fill 𝓛 n (‵ (part_at R full_share h' b o)) Γ) k)));
  }
