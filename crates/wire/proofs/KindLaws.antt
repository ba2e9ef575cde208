-- What each kind owes to the laws of all messages, `KindLaws`, and each message, `message_back` and `message_clear`. The laws of reading
-- and the round trips ask for nothing else of a kind.
use Prim.Native.Nat.{ℕ, zero, suc, ◌^◌, ◌≤◌, ◌<◌}
use mathlib.Core.Path.{◌≡◌, refl, sym, ap, ◌∙◌, subst}
use mathlib.Core.Bool.{Bool, true, false, not, ◌&&◌, cond}
use mathlib.Core.List.{List, [], ◌∷◌, ◌++◌}
use Rattle.std.specs.Prelude.{Some}
use native.Mathlib.Omega.{arith}
use lib.Dec.{lit<, lit≤, eqb}
use lib.ListN.{get_or, length, drop, replicate}
use borrow.Author.Tests.{eqb-true, not-false}
use Rattle.lists.specs.Places.{All}
use Rattle.lists.proofs.BoolLaws.{both_true}
use Rattle.lists.proofs.ListLaws.{none_passes_count}
use Rattle.lists.proofs.AllLaws.{none_all, all_weaken}
use Rattle.numbers.specs.Numbers.{most_panels, most_events}
use Rattle.sets.specs.declared.Context.{Context}
use Rattle.request.specs.declared.Request.{Request}
use Rattle.sets.specs.Sets.{empty_set, set_of, Words, is_empty, all_zero}
use Rattle.fields.specs.Widths.{settlement_widths}
use Rattle.fields.proofs.IntegerLaws.{Bytes}
use Rattle.fields.proofs.WidthLaws.{decode_within, within-drop, words_small}
use Rattle.wire.specs.declared.Kind.{Kind}
use Rattle.wire.specs.declared.Kind.TheVariants.{Weak, Strong, Settlement}
use Rattle.wire.specs.Layout.{kind_number, layout, kind_with, widths_with}
use Rattle.fields.specs.Widths.{decode, head_fields, context_field}
use Rattle.wire.specs.Layout.{least_size, most_size, least_message, longest_message}
use Rattle.wire.specs.declared.Message.TheVariants.{Request as request, Settlement as settlement}
use Rattle.wire.specs.Message.{BusMessage, kind_of, front_of, run_of, behind_of}
use Rattle.fields.specs.Contents.{spare_byte, number_fields, body_fields}
use Rattle.wire.specs.Message.{contents, widths_of, size_of, fields_of, message_from}
use Rattle.fields.specs.Contents.{number_from, request_from}
use Rattle.wire.specs.Message.{weak_with_context, ContextWords, Fits}
use Rattle.wire.specs.Reader.{run_at, fields_at, spare_set}
use Rattle.wire.specs.internal.LaidOut.{LaidOut}

-- the message of this kind with the fields f has what stands there behind length and kind
abbrev pub ContentsOf : Kind → List ℕ → Type 0
ContentsOf k f = contents (message_from k f) ≡ drop head_fields f

pub record KindLaws (k : Kind) : Type 0 where
  -- its number tells it, and is one of two bytes
  pub known : kind_with (kind_number k) ≡ Some k
  pub small : kind_number k < 2 ^ 16
  -- its messages are not shorter than the shortest and not longer than the longest
  pub least : least_message ≤ least_size k
  pub longest : most_size k ≤ longest_message
  -- the message with given fields is of this kind and can be sent
  pub kind_kept : (f : List ℕ) → kind_of (message_from k f) ≡ k
  pub sendable : (f : List ℕ) → weak_with_context (message_from k f) ≡ false
  -- the number that it names stands where a settlement has it
  pub number_first : (n : ℕ) (s : List ℕ) (at : ℕ)
      → number_from (decode (widths_with k n) s at) ≡ number_from (decode settlement_widths s at)
  -- a message that is laid out at a place has the run and the contents that stand there
  pub run_kept : (s : List ℕ) (at : ℕ) → LaidOut k s at → length (run_of (message_from k (fields_at k s at))) ≡ run_at k s at
  pub contents_kept : (s : List ℕ) (at : ℕ) → LaidOut k s at → ContentsOf k (fields_at k s at)
  -- and, from bytes, a word for each panel in its context
  pub words_kept : (s : List ℕ) (at : ℕ) → LaidOut k s at → Bytes s → ContextWords (message_from k (fields_at k s at))

-- ---- for any kind

module _ (k : Kind) (s : List ℕ) (at : ℕ) (laid : LaidOut k s at) where
  -- the run is not longer than the kind has it
  pub run_most : run_at k s at ≤ (layout k).most_run
  unfolding run_at most_size
  run_most = omega (arith, laid.most)

  module _ (none : (layout k).most_run ≡ 0) where
    no_run : run_at k s at ≡ 0
    no_run = omega (arith, run_most, none)

    -- a kind without a run has the same fields in every message
    pub runless : fields_at k s at ≡ decode (widths_with k 0) s at
    unfolding fields_at
    runless = ap (λ (n : ℕ). decode (widths_with k n) s at) no_run

-- every spare byte is 0
spares_zero : (k : Kind) (f : List ℕ) → spare_set k f ≡ false → All (λ p. get_or f p spare_byte ≡ spare_byte) (layout k).spares
unfolding spare_set
spares_zero k f e =
    let set : ℕ → Bool = λ p. not (eqb (get_or f p spare_byte) spare_byte) in
    all_weaken (λ p h. eqb-true (get_or f p spare_byte) spare_byte (not-false _ h)) (layout k).spares
    (none_all set (layout k).spares (none_passes_count set (layout k).spares e))

-- the fields at a place of a kind without a run
abbrev plain : Kind → List ℕ → ℕ → List ℕ
plain k s at = decode (widths_with k 0) s at

module _ (k : Kind) (none : (layout k).most_run ≡ 0) (s : List ℕ) (at : ℕ) (laid : LaidOut k s at) where
  -- what holds of those fields where no spare byte is set
  plainly : (P : List ℕ → Type 0) → (spare_set k (plain k s at) ≡ false → P (plain k s at)) → P (fields_at k s at)
  plainly P h =
      let e = runless k s at laid none in
      subst P (sym e) (h (ap (spare_set k) (sym e) ∙ laid.clear))

-- ---- a weak request

zeros_small : (n p : ℕ) → get_or (replicate n 0) p 0 < 2 ^ most_events
zeros_small zero p = lit< tt
zeros_small (suc n) zero = lit< tt
zeros_small (suc n) (suc p) = zeros_small n p

weak-contents : (s : List ℕ) (at : ℕ) → spare_set Weak (plain Weak s at) ≡ false → ContentsOf Weak (plain Weak s at)
unfolding contents front_of run_of behind_of message_from widths_with layout decode
weak-contents s at clear = let zero = (spares_zero Weak (plain Weak s at) clear).0 in rw zero

weak_laws : KindLaws Weak
unfolding kind_with least_size most_size widths_with layout decode kind_of message_from weak_with_context is_empty all_zero run_of
weak_laws = record {
  known = refl;
  small = lit< tt;
  least = lit≤ tt;
  longest = lit≤ tt;
  kind_kept = λ f. refl;
  sendable = λ f. refl;
  number_first = λ n s at. refl;
  run_kept = λ s at laid. sym (no_run Weak s at laid refl);
  contents_kept = λ s at laid. plainly Weak refl s at laid (ContentsOf Weak) (weak-contents s at);
  words_kept = λ s at laid b. record { count = refl; small = zeros_small most_panels };
}

-- ---- a strong one

strong-contents : (s : List ℕ) (at : ℕ) → spare_set Strong (plain Strong s at) ≡ false → ContentsOf Strong (plain Strong s at)
unfolding contents front_of run_of behind_of message_from widths_with layout decode
strong-contents s at clear = let zero = (spares_zero Strong (plain Strong s at) clear).0 in rw zero

strong_words : (s : List ℕ) (at : ℕ) → Bytes s → ContextWords (message_from Strong (plain Strong s at))
unfolding message_from widths_with layout decode
strong_words s at b =
    let context = within-drop context_field (widths_with Strong 0) (plain Strong s at) (decode_within (widths_with Strong 0) s at b) in
    record { count = refl; small = words_small most_panels (drop context_field (plain Strong s at)) context }

strong_laws : KindLaws Strong
unfolding kind_with least_size most_size widths_with layout decode kind_of message_from weak_with_context run_of
strong_laws = record {
  known = refl;
  small = lit< tt;
  least = lit≤ tt;
  longest = lit≤ tt;
  kind_kept = λ f. refl;
  sendable = λ f. refl;
  number_first = λ n s at. refl;
  run_kept = λ s at laid. sym (no_run Strong s at laid refl);
  contents_kept = λ s at laid. plainly Strong refl s at laid (ContentsOf Strong) (strong-contents s at);
  words_kept = λ s at laid b. plainly Strong refl s at laid (λ f. ContextWords (message_from Strong f)) (λ _. strong_words s at b);
}

-- ---- a settlement

settlement-contents : (s : List ℕ) (at : ℕ) → ContentsOf Settlement (plain Settlement s at)
unfolding contents front_of run_of behind_of message_from widths_with layout decode
settlement-contents s at = refl

settlement_laws : KindLaws Settlement
unfolding kind_with least_size most_size widths_with layout decode kind_of message_from weak_with_context run_of
settlement_laws = record {
  known = refl;
  small = lit< tt;
  least = lit≤ tt;
  longest = lit≤ tt;
  kind_kept = λ f. refl;
  sendable = λ f. refl;
  number_first = λ n s at. refl;
  run_kept = λ s at laid. sym (no_run Settlement s at laid refl);
  contents_kept = λ s at laid. plainly Settlement refl s at laid (ContentsOf Settlement) (λ _. settlement-contents s at);
  words_kept = λ s at laid b. tt;
}

-- ---- every kind

pub kind_laws : (k : Kind) → KindLaws k
kind_laws Weak = weak_laws
kind_laws Strong = strong_laws
kind_laws Settlement = settlement_laws

-- the shortest message and the longest one are of some kind
pub least_is : least_message ≡ least_size Settlement
unfolding least_size widths_with layout
least_is = refl

pub longest_is : longest_message ≡ most_size Strong
unfolding most_size least_size widths_with layout
longest_is = refl

-- ---- every message

all_zero_lem : (ws : List ℕ) → all_zero ws ≡ true → ws ≡ replicate (length ws) 0
unfolding all_zero
all_zero_lem [] e = refl
all_zero_lem (w ∷ ws) e =
    let h = both_true _ _ e in
    let first : w ≡ 0 = eqb-true _ _ h.0 in
    rw first (ap (λ (l : List ℕ). 0 ∷ l) (all_zero_lem ws h.1))

-- a set with no number, of a word for each panel, is the empty set
empty_is : (s : Context) → Words s → is_empty s ≡ true → s ≡ empty_set
unfolding is_empty
empty_is s h e = ap set_of (all_zero_lem s.words e ∙ rw h.count)

module _ (r : Request) where
  -- the fields of r, were it of this strength
  abbrev fields_by : Bool → List ℕ
  fields_by strong =
      let k = cond strong Strong Weak in
      least_size k ∷ kind_number k ∷ ((number_fields r.number ++ body_fields r) ++ cond strong r.context.words [])

  -- r with another context
  abbrev back : Bool → Context → BusMessage
  back b context = request (request_from (fields_by b) b context)

  -- all but a weak request's context comes back
  back_by : (b : Bool) → message_from (cond b Strong Weak) (fields_by b) ≡ back b (cond b r.context empty_set)
  unfolding message_from
  back_by true = refl
  back_by false = refl

  -- and that is empty
  context_back : (b : Bool) → (not b && not (is_empty r.context)) ≡ false → Words r.context
      → cond b r.context empty_set ≡ r.context
  context_back true ok h = refl
  context_back false ok h = sym (empty_is r.context h (not-false _ ok))

  clear_by : (b : Bool) → spare_set (cond b Strong Weak) (fields_by b) ≡ false
  unfolding spare_set layout
  clear_by true = refl
  clear_by false = refl

-- a message that can be sent comes back from its fields
pub message_back : (m : BusMessage) → Fits m → weak_with_context m ≡ false → message_from (kind_of m) (fields_of m) ≡ m
unfolding message_from kind_of fields_of contents front_of run_of behind_of weak_with_context size_of widths_of least_size
message_back (settlement n) fits ok = refl
message_back (request r) fits ok =
    back_by r r.asked.strong ∙ ap (back r r.asked.strong) (context_back r r.asked.strong ok fits.words)

-- no spare byte of a message is set
pub message_clear : (m : BusMessage) → spare_set (kind_of m) (fields_of m) ≡ false
unfolding spare_set layout kind_of fields_of contents front_of run_of behind_of size_of widths_of least_size
message_clear (settlement n) = refl
message_clear (request r) = clear_by r r.asked.strong
