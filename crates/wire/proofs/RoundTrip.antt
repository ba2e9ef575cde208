-- Bus messages read back as written, and write back as read.
--     read-back        what is written reads back as the same message and as many bytes, whatever stands before and behind it
--     write_back       what is read writes back as the bytes that were taken
--     read_fits, read_sendable      so the writer refuses nothing that was read, given room
--     written_reads, read_writes    the same two of the writer's lent part
--     taken_least, taken_longest, taken_inside     a message takes at least the bytes of the shortest, at most those of the longest, and no
--                                   more than are left
--     kind-told, number-told        its kind's number and the number that it names stand at the same places in each kind
--     place_inside     no answer moves a place past the end
-- One argument serves every kind: what it asks of one stands in `KindLaws`.
use Prim.Native.Nat.{ℕ, ◌+◌, ◌-◌, ◌≤◌, ◌<◌}
use mathlib.Core.Path.{◌≡◌, refl, sym, ap, ◌∙◌}
use mathlib.Core.Bool.{false}
use mathlib.Core.List.{List, [], ◌∷◌, ◌++◌}
use Rattle.std.specs.Prelude.{Option, Some, None}
use native.Mathlib.Omega.{arith}
use native.Mathlib.Decide.{dec_le, dec_lt, ℕ_discrete}
use lib.ListN.{length, get_or, take, drop, length-append}
use Rattle.request.specs.Refusal as refusal
use borrow.Author.Tests.{eq-eqb}
use Rattle.wire.specs.declared.Kind.{Kind}
use Rattle.wire.specs.Layout.{kind_number, kind_with, widths_with, least_size, most_size, least_message, longest_message}
use Rattle.fields.specs.Widths.{size, decode, encode, Within}
use Rattle.fields.specs.Widths.{length_field, kind_field, head_fields, head_size}
use Rattle.wire.specs.declared.Message.TheVariants.{Request as request, Settlement as settlement}
use Rattle.wire.specs.Message.{BusMessage, kind_of, number_in}
use Rattle.wire.specs.Message.{front_of, run_of, contents, widths_of, size_of, fields_of, bytes_of, message_from}
use Rattle.fields.specs.Contents.{number_from}
use Rattle.wire.specs.Message.{weak_with_context, Fits}
use Rattle.wire.specs.Reader.{Outcome, message, end, refused, taken_of}
use Rattle.wire.specs.Reader.{length_at, kind_at, run_at, fields_at, spare_set, refusal_as, read_as, read_at}
use Rattle.wire.specs.internal.LaidOut.{LaidOut}
use Rattle.wire.specs.Writer.{write_refusal, after_write}
use Rattle.fields.specs.Widths.{settlement_widths}
use Rattle.fields.proofs.IntegerLaws.{Bytes}
use Rattle.fields.proofs.WidthLaws.{fields_back, run_back, decode_within}
use Rattle.wire.proofs.LayoutLaws.{size_with, head_least, known-number}
use Rattle.wire.proofs.KindLaws.{kind_laws, run_most, message_back, message_clear}
use Rattle.wire.proofs.ReaderLaws.{laid_out, accepted_laid_out, laid_inside, refused_as, read_as_lem}
use Rattle.wire.proofs.ReaderLaws.{at-end, head_cut, of_kind, of_option}
use Rattle.wire.proofs.WriterLaws.{length_bytes, written, sendable-accepted, accepted_sendable}

-- ---- what is written reads back

module _ (m : BusMessage) (before behind : List ℕ) (fits : Fits m) (sendable : weak_with_context m ≡ false) where
  abbrev run : List ℕ
  run = before ++ (bytes_of m ++ behind)

  -- its fields stand there
  fields_there : decode (widths_of m) run (length before) ≡ fields_of m
  unfolding bytes_of
  fields_there = fields_back (widths_of m) (fields_of m) before behind fits.fields

  run_length : length run ≡ length before + (size_of m + length behind)
  run_length =
      length-append before (bytes_of m ++ behind)
      ∙ ap (λ (n : ℕ). length before + n) (length-append (bytes_of m) behind ∙ ap (λ (n : ℕ). n + length behind) (length_bytes m fits))

  -- so the head that is read is its head
  length-read : length_at run (length before) ≡ size_of m
  unfolding fields_of length_at widths_of widths_with decode
  length-read = ap (λ (f : List ℕ). get_or f length_field 0) fields_there

  kind-read : kind_at run (length before) ≡ kind_number (kind_of m)
  unfolding fields_of kind_at widths_of widths_with decode
  kind-read = ap (λ (f : List ℕ). get_or f kind_field 0) fields_there

  size_is : size_of m ≡ least_size (kind_of m) + length (run_of m)
  unfolding size_of widths_of
  size_is = size_with (kind_of m) (length (run_of m))

  -- which tells the bytes of its run
  run-read : run_at (kind_of m) run (length before) ≡ length (run_of m)
  unfolding run_at
  run-read = omega (arith, length-read, size_is)

  fields_read : fields_at (kind_of m) run (length before) ≡ fields_of m
  unfolding fields_at widths_of
  fields_read = ap (λ (n : ℕ). decode (widths_with (kind_of m) n) run (length before)) run-read ∙ fields_there

  laid_there : LaidOut (kind_of m) run (length before)
  unfolding most_size
  laid_there = record {
    least = omega (arith, length-read, size_is);
    most = omega (arith, length-read, size_is, fits.run);
    whole = omega (arith, length-read, run_length);
    clear = ap (spare_set (kind_of m)) fields_read ∙ message_clear m;
  }

  pub read_back : read_at run (length before) ≡ message m (size_of m)
  read_back =
      let k = kind_of m in
      let at = length before in
      let least = head_least k in
      let inside : at + head_size ≤ length run = omega (arith, run_length, size_is, least) in
      of_kind run at (omega arith) (omega arith) k kind-read
      ∙ read_as_lem k run at (laid_out k run at laid_there)
      ∙ ap (λ (n : ℕ). message (message_from k (fields_at k run at)) n) length-read
      ∙ ap (λ (b : BusMessage). message b (size_of m)) (ap (message_from k) fields_read ∙ message_back m fits sendable)

-- ---- what is read

-- what holds where a message was read
pub record Taken (s : List ℕ) (at : ℕ) (m : BusMessage) (n : ℕ) : Type 0 where
  pub kind : Kind
  pub kind_is : kind_at s at ≡ kind_number kind
  pub laid : LaidOut kind s at
  pub message_is : m ≡ message_from kind (fields_at kind s at)
  pub taken_is : n ≡ length_at s at

not_end : (m : BusMessage) (n : ℕ) → end ≡ message m n → ⊥
not_end m n e = let no : ◌≡◌ {A = ℕ} 0 1 = cc in omega arith

not-refused : (w : ℕ) (m : BusMessage) (n : ℕ) → refused w ≡ message m n → ⊥
not-refused w m n e = let no : ◌≡◌ {A = ℕ} 0 1 = cc in omega arith

module _ (s : List ℕ) (at : ℕ) (m : BusMessage) (n : ℕ) where
  taken_as : (k : Kind) → kind_at s at ≡ kind_number k → read_as k s at ≡ message m n → Taken s at m n
  taken_as k is e =
      elim (ℕ_discrete (refusal_as k s at) refusal.accepted) [
        | yes ok ↦
            let same : message (message_from k (fields_at k s at)) (length_at s at) ≡ message m n = sym (read_as_lem k s at ok) ∙ e in
            record {
              kind = k;
              kind_is = is;
              laid = accepted_laid_out k s at ok;
              message_is = cc same;
              taken_is = cc same;
            }
        | no bad ↦ absurd (not-refused _ m n (sym (refused_as k s at bad) ∙ e))
      ]

  pub taken : read_at s at ≡ message m n → Taken s at m n
  taken e =
      elim (dec_le (length s) at) [
        | yes past ↦ absurd (not_end m n (sym (at-end s at past) ∙ e))
        | no within ↦ elim (dec_lt (length s - at) head_size) [
          | yes short ↦ absurd (not-refused _ m n (sym (head_cut s at (omega arith) short) ∙ e))
          | no long ↦ by (omega arith) (omega arith) (kind_with (kind_at s at)) refl
        ]
      ]
    where
      by : at < length s → head_size ≤ length s - at → (o : Option Kind) → kind_with (kind_at s at) ≡ o → Taken s at m n
      by inside head None is = absurd (not-refused _ m n (sym (of_option s at inside head None is) ∙ e))
      by inside head (Some k) is =
          taken_as k (known-number (kind_at s at) k is) (sym (of_option s at inside head (Some k) is) ∙ e)

module _ (k : Kind) (s : List ℕ) (at : ℕ) where
  -- length and kind stand in front of the contents
  fields_at_lem : fields_at k s at ≡ length_at s at ∷ kind_at s at ∷ drop head_fields (fields_at k s at)
  unfolding fields_at widths_with decode length_at kind_at
  fields_at_lem = refl

  module _ (is : kind_at s at ≡ kind_number k) (laid : LaidOut k s at) where
    -- the bytes of the fields are those that the length tells
    length-told : size (widths_with k (run_at k s at)) ≡ length_at s at
    unfolding run_at
    length-told = omega (arith, size_with k (length_at s at - least_size k), laid.least)

    -- the widths and the fields of the message that was read are those that were read
    widths-kept : widths_of (message_from k (fields_at k s at)) ≡ widths_with k (run_at k s at)
    unfolding widths_of
    widths-kept =
        let laws = kind_laws k in
        let f = fields_at k s at in
        ap (λ (j : Kind). widths_with j (length (run_of (message_from k f)))) (laws.kind_kept f)
        ∙ ap (widths_with k) (laws.run_kept s at laid)

    size-kept : size_of (message_from k (fields_at k s at)) ≡ length_at s at
    unfolding size_of
    size-kept = ap size widths-kept ∙ length-told

    fields-kept : fields_of (message_from k (fields_at k s at)) ≡ fields_at k s at
    unfolding fields_of
    fields-kept =
        let laws = kind_laws k in
        let m = message_from k (fields_at k s at) in
        let number : kind_number (kind_of m) ≡ kind_at s at = ap kind_number (laws.kind_kept (fields_at k s at)) ∙ sym is in
        ap (λ (n : ℕ). n ∷ kind_number (kind_of m) ∷ contents m) size-kept
        ∙ ap (λ (n : ℕ). length_at s at ∷ n ∷ contents m) number
        ∙ ap (λ (l : List ℕ). length_at s at ∷ kind_at s at ∷ l) (laws.contents_kept s at laid)
        ∙ sym fields_at_lem

-- the number that a message names is the first of its contents
number_first_in : (m : BusMessage) → number_in m ≡ number_from (fields_of m)
unfolding number_in fields_of contents front_of
number_first_in (request r) = refl
number_first_in (settlement n) = refl

module _ (s : List ℕ) (at : ℕ) (m : BusMessage) (n : ℕ) (read : read_at s at ≡ message m n) where
  -- a message takes at least the bytes of the shortest
  pub taken_least : least_message ≤ n
  taken_least = let t = taken s at m n read in omega (arith, t.taken_is, t.laid.least, (kind_laws t.kind).least)

  -- at most those of the longest
  pub taken_longest : n ≤ longest_message
  taken_longest = let t = taken s at m n read in omega (arith, t.taken_is, t.laid.most, (kind_laws t.kind).longest)

  -- and no more than are left
  pub taken_inside : at + n ≤ length s
  taken_inside = let t = taken s at m n read in omega (arith, t.taken_is, laid_inside t.kind s at t.laid)

  pub taken-size : n ≡ size_of m
  taken-size =
      let t = taken s at m n read in
      t.taken_is ∙ sym (ap size_of t.message_is ∙ size-kept t.kind s at t.kind_is t.laid)

  -- its kind's number stands in its head
  pub kind-told : kind_at s at ≡ kind_number (kind_of m)
  kind-told =
      let t = taken s at m n read in
      t.kind_is ∙ sym (ap kind_number (ap kind_of t.message_is ∙ (kind_laws t.kind).kind_kept _))

  -- and the number that it names behind that
  pub number-told : number_in m ≡ number_from (decode settlement_widths s at)
  unfolding fields_at
  number-told =
      let t = taken s at m n read in
      number_first_in m
      ∙ ap (λ (b : BusMessage). number_from (fields_of b)) t.message_is
      ∙ ap number_from (fields-kept t.kind s at t.kind_is t.laid)
      ∙ (kind_laws t.kind).number_first _ s at

  -- it is no weak request with a context
  pub read_sendable : weak_with_context m ≡ false
  read_sendable = let t = taken s at m n read in ap weak_with_context t.message_is ∙ (kind_laws t.kind).sendable _

  -- where the run is of bytes
  module _ (bytes : Bytes s) where
    -- it writes back as the bytes that were taken
    pub write_back : bytes_of m ≡ take n (drop at s)
    unfolding bytes_of fields_at
    write_back =
        let t = taken s at m n read in
        let k = t.kind in
        let ws = widths_with k (run_at k s at) in
        let told : size ws ≡ n = length-told k s at t.kind_is t.laid ∙ sym t.taken_is in
        let widths : widths_of m ≡ ws = ap widths_of t.message_is ∙ widths-kept k s at t.kind_is t.laid in
        let fields : fields_of m ≡ fields_at k s at = ap fields_of t.message_is ∙ fields-kept k s at t.kind_is t.laid in
        ap (λ (w : List ℕ). encode w (fields_of m)) widths
        ∙ ap (encode ws) fields
        ∙ run_back ws s at bytes (omega (arith, taken_inside, told))
        ∙ ap (λ (z : ℕ). take z (drop at s)) told

    -- and each of its fields fits
    pub read_fits : Fits m
    unfolding fields_at
    read_fits =
        let t = taken s at m n read in
        let k = t.kind in
        let is = t.kind_is in
        let laid = t.laid in
        let laws = kind_laws k in
        let f = fields_at k s at in
        let within : Within (widths_with k (run_at k s at)) f = decode_within (widths_with k (run_at k s at)) s at bytes in
        rw t.message_is
        (record {
          fields = rw (widths-kept k s at is laid, fields-kept k s at is laid) within;
          run = rw (laws.kind_kept f, laws.run_kept s at laid) (run_most k s at laid);
          words = laws.words_kept s at laid bytes;
        })

-- ---- the lent part

-- where the writer accepts, its part begins with the message
pub written_reads : (m : BusMessage) (out : List ℕ) → Fits m → write_refusal m (length out) ≡ refusal.accepted
    → read_at (after_write m out) 0 ≡ message m (size_of m)
unfolding after_write
written_reads m out fits ok =
    simp (eq-eqb _ _ ok) (read_back m [] (drop (size_of m) out) fits (accepted_sendable m (length out) ok))

module _ (s : List ℕ) (at : ℕ) (m : BusMessage) (n : ℕ) (read : read_at s at ≡ message m n) (bytes : Bytes s) where
  -- a message that was read is accepted by a writer with room for it, and written as the bytes that were taken
  pub read_writes : (out : List ℕ) → n ≤ length out
      → (write_refusal m (length out) ≡ refusal.accepted) × (after_write m out ≡ take n (drop at s) ++ drop n out)
  read_writes out room =
      let is = taken-size s at m n read in
      let sendable = read_sendable s at m n read in
      let fits : size_of m ≤ length out = omega arith in (
        sendable-accepted m (length out) sendable fits,
        (written m out sendable fits).1
            ∙ ap (λ (z : ℕ). bytes_of m ++ drop z out) (sym is) ∙ ap (λ (l : List ℕ). l ++ drop n out) (write_back s at m n read bytes),
      )

-- ---- places

-- no answer moves a place past the end
pub place_inside : (s : List ℕ) (at : ℕ) → at ≤ length s → at + taken_of (read_at s at) ≤ length s
place_inside s at inside = go (read_at s at) refl
  where
    go : (o : Outcome) → read_at s at ≡ o → at + taken_of o ≤ length s
    go (message m n) e = taken_inside s at m n e
    go end e = omega arith
    go (refused w) e = omega arith
