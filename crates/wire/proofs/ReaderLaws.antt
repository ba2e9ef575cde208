-- What the reader's definitions give, case by case, and what holds where a message is read.
use Prim.Native.Nat.{ℕ, ◌+◌, ◌-◌, ◌≤◌, ◌<◌}
use mathlib.Core.Path.{◌≡◌, refl, sym, ap, ◌∙◌}
use mathlib.Core.Bool.{Bool, true, false, not, cond}
use mathlib.Core.List.{List, [], ◌∷◌}
use Rattle.std.specs.Prelude.{Option, Some, None}
use native.Mathlib.Omega.{arith}
use native.Mathlib.Decide.{dec_lt}
use lib.Dec.{leb, eqb}
use lib.ListN.{length, get_or}
use borrow.Author.Tests.{le-leb, lt-leb, lt-ltb, le-ltb, eq-eqb, ne_eqb, ltb-false}
use Rattle.lists.specs.Lists.{one, some_passes}
use Rattle.request.specs.declared.refusal.Refusal.{Refusal}
use Rattle.request.specs.declared.refusal.Refusal.TheVariants as Word
use Rattle.request.specs.Refusal as refusal
use Rattle.request.specs.Refusal.{number_of}
use Rattle.wire.specs.declared.Kind.{Kind}
use Rattle.wire.specs.Layout.{kind_number, kind_with, layout, least_size, most_size}
use Rattle.fields.specs.Widths.{head_size}
use Rattle.wire.specs.Message.{BusMessage, message_from}
use Rattle.fields.specs.Contents.{spare_byte}
use Rattle.wire.specs.Reader.{Outcome, message, end, refused, taken_of, length_at, kind_at, fields_at, spare_set}
use Rattle.wire.specs.internal.LaidOut.{LaidOut}
use Rattle.wire.specs.Reader.{refusal_as, read_as, read_with, read_at}
use Rattle.wire.proofs.LayoutLaws.{head_least}
use Rattle.wire.proofs.KindLaws.{kind_laws}

-- ---- refusals

-- no refusal's number is that of none
pub is_refusal : (w : Refusal) → number_of w ≡ refusal.accepted → ⊥
is_refusal w e = omega (arith, e, above w)
  where
    above : (w : Refusal) → 1 ≤ number_of w
    above Word.BadShop = omega arith
    above Word.BadNumber = omega arith
    above Word.BadOperation = omega arith
    above Word.OwnEcho = omega arith
    above Word.ShiftFull = omega arith
    above Word.HeldAlready = omega arith
    above Word.NumberClash = omega arith
    above Word.NotHere = omega arith
    above Word.Weak = omega arith
    above Word.SettledAlready = omega arith
    above Word.Waits = omega arith
    above Word.NothingToUndo = omega arith
    above Word.UndoFirst = omega arith
    above Word.NothingToDo = omega arith
    above Word.CutShort = omega arith
    above Word.BadLength = omega arith
    above Word.UnknownKind = omega arith
    above Word.SpareSet = omega arith
    above Word.NoRoom = omega arith
    above Word.BadContext = omega arith

-- ---- a message of a kind

-- of a kind with one spare byte, that byte tells
pub one_spare : (k : Kind) (p : ℕ) (f : List ℕ) → (layout k).spares ≡ p ∷ []
    → spare_set k f ≡ not (eqb (get_or f p spare_byte) spare_byte)
unfolding spare_set
one_spare k p f e =
    ap (λ (ps : List ℕ). some_passes (λ p. not (eqb (get_or f p spare_byte) spare_byte)) ps) e ∙ go (not (eqb (get_or f p spare_byte) spare_byte))
  where
    go : (b : Bool) → leb 1 (one b + 0) ≡ b
    go true = refl
    go false = refl

module _ (k : Kind) (s : List ℕ) (at : ℕ) where
  pub too_short : length_at s at < least_size k → refusal_as k s at ≡ refusal.bad_length
  unfolding refusal_as
  too_short l = simp (lt-ltb _ _ l)

  module _ (least : least_size k ≤ length_at s at) where
    pub too_long : most_size k < length_at s at → refusal_as k s at ≡ refusal.bad_length
    unfolding refusal_as
    too_long l = simp (le-ltb _ _ least, lt-ltb _ _ l)

    module _ (most : length_at s at ≤ most_size k) where
      pub cut_short_lem : length s - at < length_at s at → refusal_as k s at ≡ refusal.cut_short
      unfolding refusal_as
      cut_short_lem l = simp (le-ltb _ _ least, le-ltb _ _ most, lt-ltb _ _ l)

      pub spare-set : length_at s at ≤ length s - at → spare_set k (fields_at k s at) ≡ true → refusal_as k s at ≡ refusal.spare_set
      unfolding refusal_as
      spare-set l e = simp (le-ltb _ _ least, le-ltb _ _ most, le-ltb _ _ l, e)

  pub laid_out : LaidOut k s at → refusal_as k s at ≡ refusal.accepted
  unfolding refusal_as
  laid_out h = simp (le-ltb _ _ h.least, le-ltb _ _ h.most, le-ltb _ _ h.whole, h.clear)

  pub accepted_laid_out : refusal_as k s at ≡ refusal.accepted → LaidOut k s at
  unfolding refusal_as
  accepted_laid_out e =
      let a = passed _ refusal.bad_length _ (λ q. omega arith) e in
      let b = passed _ refusal.bad_length _ (λ q. omega arith) a.1 in
      let d = passed _ refusal.cut_short _ (λ q. omega arith) b.1 in
      let f = passed _ refusal.spare_set _ (λ q. omega arith) d.1 in
      record { least = ltb-false _ _ a.0; most = ltb-false _ _ b.0; whole = ltb-false _ _ d.0; clear = f.0 }
    where
      passed : (t : Bool) (w rest : ℕ) → (w ≡ refusal.accepted → ⊥) → cond t w rest ≡ refusal.accepted
          → (t ≡ false) × (rest ≡ refusal.accepted)
      passed true w rest n q = absurd (n q)
      passed false w rest n q = (refl, q)

  -- what is laid out lies in the bytes
  pub laid_inside : LaidOut k s at → at + length_at s at ≤ length s
  laid_inside h = omega (arith, h.least, h.whole, head_least k)

  pub refused_as : (refusal_as k s at ≡ refusal.accepted → ⊥) → read_as k s at ≡ refused (refusal_as k s at)
  unfolding read_as
  refused_as h = simp (ne_eqb _ _ h)

  pub read_as_lem : refusal_as k s at ≡ refusal.accepted → read_as k s at ≡ message (message_from k (fields_at k s at)) (length_at s at)
  unfolding read_as
  read_as_lem h = simp (eq-eqb _ _ h)

-- ---- at a place

module _ (s : List ℕ) (at : ℕ) where
  pub at-end : length s ≤ at → read_at s at ≡ end
  unfolding read_at
  at-end h = simp (le-leb _ _ h)

  pub head_cut : at < length s → length s - at < head_size → read_at s at ≡ refused refusal.cut_short
  unfolding read_at
  head_cut h l = simp (lt-leb _ _ h, lt-ltb _ _ l)

  module _ (inside : at < length s) (head : head_size ≤ length s - at) where
    pub of_option : (o : Option Kind) → kind_with (kind_at s at) ≡ o → read_at s at ≡ read_with o s at
    unfolding read_at
    of_option o e = simp (lt-leb _ _ inside, le-ltb _ _ head, e)

    pub of_kind : (k : Kind) → kind_at s at ≡ kind_number k → read_at s at ≡ read_as k s at
    of_kind k e = of_option (Some k) (ap kind_with e ∙ (kind_laws k).known)

-- ---- what takes no bytes

pub end_takes_nothing : (o : Outcome) → o ≡ end → taken_of o ≡ 0
end_takes_nothing o e = rw e

pub refused-takes-nothing : (o : Outcome) (w : ℕ) → o ≡ refused w → taken_of o ≡ 0
refused-takes-nothing o w e = rw e

-- ---- where bytes are left

told_of_kind : (b : Bool) (m : BusMessage) (n w : ℕ) → cond b (message m n) (refused w) ≡ end → ⊥
told_of_kind true m n w e = let no : ◌≡◌ {A = ℕ} 0 1 = cc in omega arith
told_of_kind false m n w e = let no : ◌≡◌ {A = ℕ} 0 1 = cc in omega arith

module _ (s : List ℕ) (at : ℕ) where
  told_of_number : (o : Option Kind) → read_with o s at ≡ end → ⊥
  unfolding read_as
  told_of_number None e = let no : ◌≡◌ {A = ℕ} 0 1 = cc in omega arith
  told_of_number (Some k) e = told_of_kind (eqb (refusal_as k s at) refusal.accepted) _ _ _ e

  -- the end is not read
  pub not_at_end : at < length s → read_at s at ≡ end → ⊥
  not_at_end inside e =
      elim (dec_lt (length s - at) head_size) [
        | yes short ↦ let no : ◌≡◌ {A = ℕ} 0 1 = cc (head_cut s at inside short) in omega arith
        | no long ↦ told_of_number (kind_with (kind_at s at)) (sym (of_option s at inside (omega arith) _ refl) ∙ e)
      ]
