-- What a head tells whoever reads by it: what is read at its place, where the fields of its kind stand, and the message that they make.
use Prim.Native.Nat.{ℕ, ◌+◌, ◌≤◌}
use mathlib.Core.Path.{◌≡◌, refl, sym, ap, ◌∙◌, subst}
use mathlib.Core.Bool.{true, false}
use mathlib.Core.List.{List}
use native.Mathlib.Omega.{arith}
use native.Mathlib.Nat.{add_assoc}
use lib.ListN.{length}
use Rattle.std.specs.Prelude.{Option, Some, None, Ok, Err}
use Rattle.request.specs.declared.refusal.Refusal.{Refusal}
use Rattle.request.specs.Refusal.{number_of}
use Rattle.sets.specs.Sets.{empty_set, set_of}
use Rattle.fields.specs.Widths.{settlement_widths, weak_widths, strong_widths}
use Rattle.wire.specs.declared.Head.{Head}
use Rattle.wire.specs.declared.Kind.{Kind}
use Rattle.wire.specs.declared.Kind.TheVariants.{Weak, Strong, Settlement}
use Rattle.wire.specs.Layout.{layout, widths_with, least_size}
use Rattle.fields.specs.Widths.{context_widths, size, decode}
use Rattle.wire.specs.declared.Message.TheVariants.{Request as request, Settlement as settlement}
use Rattle.wire.specs.Message.{BusMessage, kind_of, message_from}
use Rattle.fields.specs.Contents.{request_from, number_from}
use Rattle.wire.specs.Reader.{Outcome, message, end, refused, taken_of, by_number, read_at}
use Rattle.wire.specs.Head.{head_of, kind_found, GoodHead, message_at}
use Rattle.wire.specs.internal.LaidOut.{LaidOut}
use Rattle.wire.proofs.KindLaws.{kind_laws, runless}
use Rattle.wire.proofs.ReaderLaws.{laid_inside}
use Rattle.wire.proofs.RoundTrip.{taken}

-- ---- an outcome by its head

good-outcome : (o : Outcome) (k : Kind) → kind_found o ≡ Some k → (m : BusMessage) × ((o ≡ message m (taken_of o)) × (kind_of m ≡ k))
unfolding kind_found
good-outcome (message m n) k h = (m, (refl, cc h))
good-outcome end k h = cc
good-outcome (refused w) k h = cc

-- ---- a good head of a kind

-- a message of this kind is laid out at a place, and its fields make what is read
record Found (k : Kind) (s : List ℕ) (at : ℕ) : Type 0 where
  laid : LaidOut k s at
  reads : read_at s at ≡ message (message_at k s at) (taken_of (read_at s at))

module _ (s : List ℕ) (at : ℕ) where
  found : (k : Kind) → GoodHead k s at → Found k s at
  found k good =
      let is = good-outcome (read_at s at) k good in
      let n = taken_of (read_at s at) in
      let t = taken s at is.0 n is.1.0 in
      let kind : t.kind ≡ k = sym ((kind_laws t.kind).kind_kept _) ∙ sym (ap kind_of t.message_is) ∙ is.1.1 in
      let reads = is.1.0 ∙ ap (λ (m : BusMessage). message m n) t.message_is in
      let it : Found t.kind s at = record { laid = t.laid; reads = reads } in
      subst (λ j. Found j s at) kind it

-- ---- what is read at a place, by the answer of its head

good_found : (o : Outcome) (h : Head) → Ok (Some h) ≡ head_of o → (kind_found o ≡ Some h.kind) × (taken_of o ≡ h.taken)
unfolding head_of kind_found
good_found (message m n) h e = let is : h ≡ record { kind = kind_of m; taken = n } = cc in (rw is refl, rw is refl)
good_found end h e = cc
good_found (refused w) h e = cc

end_found : (o : Outcome) → Ok None ≡ head_of o → o ≡ end
unfolding head_of
end_found (message m n) e = cc
end_found end e = refl
end_found (refused w) e = cc

refused_found : (o : Outcome) (w : ℕ) → Err w ≡ head_of o → o ≡ refused w
unfolding head_of
refused_found (message m n) w e = cc
refused_found end w e = cc
refused_found (refused v) w e = let is : w ≡ v = cc in ap refused (sym is)

module _ (s : List ℕ) (at : ℕ) where
  pub good_head : (h : Head) → by_number (Ok (Some h)) ≡ head_of (read_at s at) → GoodHead h.kind s at
  good_head h e = (good_found (read_at s at) h e).0

  pub good_reads : (h : Head) → by_number (Ok (Some h)) ≡ head_of (read_at s at) → read_at s at ≡ message (message_at h.kind s at) h.taken
  good_reads h e =
      (found s at h.kind (good_head h e)).reads ∙ ap (message (message_at h.kind s at)) (good_found (read_at s at) h e).1

  pub end_reads : by_number {A = Option Head} (Ok None) ≡ head_of (read_at s at) → read_at s at ≡ end
  end_reads e = end_found (read_at s at) e

  pub refused_reads : (w : Refusal) → by_number (Err w) ≡ head_of (read_at s at) → read_at s at ≡ refused (number_of w)
  refused_reads w e = refused_found (read_at s at) (number_of w) e

-- ---- where the fields stand, kind by kind, and the message that they make

module _ (s : List ℕ) (at : ℕ) where
  -- the fields of a kind without a run stand within the bytes
  inside : (k : Kind) → GoodHead k s at → at + least_size k ≤ length s
  inside k good = let l = (found s at k good).laid in omega (arith, l.least, laid_inside k s at l)

  pub weak_inside : GoodHead Weak s at → at + size weak_widths ≤ length s
  unfolding least_size widths_with layout
  weak_inside good = inside Weak good

  pub strong_inside : GoodHead Strong s at → at + size strong_widths ≤ length s
  unfolding least_size widths_with layout
  strong_inside good = inside Strong good

  pub settlement_inside : GoodHead Settlement s at → at + size settlement_widths ≤ length s
  unfolding least_size widths_with layout
  settlement_inside good = inside Settlement good

  pub weak-message : GoodHead Weak s at → message_at Weak s at ≡ request (request_from (decode weak_widths s at) false empty_set)
  unfolding message_from widths_with layout decode
  weak-message good = rw (runless Weak s at (found s at Weak good).laid refl)

  pub strong-message : GoodHead Strong s at
      → message_at Strong s at
      ≡ request (request_from (decode weak_widths s at) true (set_of (decode context_widths s (at + size weak_widths))))
  unfolding message_from widths_with layout decode
  strong-message good = rw (runless Strong s at (found s at Strong good).laid refl) (simp add_assoc)

  pub settlement-message : GoodHead Settlement s at → message_at Settlement s at ≡ settlement (number_from (decode settlement_widths s at))
  unfolding message_from widths_with layout decode
  settlement-message good = rw (runless Settlement s at (found s at Settlement good).laid refl)
