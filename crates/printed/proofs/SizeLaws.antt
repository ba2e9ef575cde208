-- How long the printout of bytes is at most, in this order: a replica whose numbers fit the columns, from fresh on; its closing lines; the
-- lines of messages; how many are found; the whole.
use Prim.{tt}
use Prim.Native.Nat.{ℕ, zero, suc, ◌+◌, ◌*◌, ◌-◌, ◌^◌, ◌≤◌, ◌<◌}
use native.Mathlib.Omega.{arith}
use mathlib.Core.Path.{◌≡◌, refl}
use mathlib.Core.Bool.{Bool, true, false, not}
use mathlib.Core.List.{List, [], ◌∷◌}
use lib.ListN.{length, get_or, take, replicate, length-append, length-take, length-drop}
use lib.Dec.{ltb, lit<}
use borrow.Author.Tests.{lt-ltb, ltb-true, ltb-false, not-false}
use Rattle.lists.specs.Lists.{count, one}
use Rattle.lists.specs.Places.{All}
use Rattle.lists.proofs.BoolLaws.{either}
use Rattle.lists.proofs.ListLaws.{count_all, one_zero}
use Rattle.request.specs.declared.Request.{Request}
use Rattle.request.specs.Operations.{last_register}
use Rattle.request.specs.Refusal as refused_by
use Rattle.request.specs.Asked.{operation_of}
use Rattle.effects.proofs.RegisterLaws.{exec_in_range}
use Rattle.effects.specs.Effect.{range, exec}
use Rattle.effects.specs.Replay.{zero_board, replay_on, replay}
use Rattle.effects.proofs.FrameLaws.{InRange}
use Rattle.effects.proofs.ReplayLaws.{replay-length}
use Rattle.creek.specs.Plan.{order}
use Rattle.creek.specs.Execution.{registers, board, operations}
use Rattle.creek.specs.Book.{refusal, accepted}
use Rattle.creek.specs.Calls.{Replica, bad_shop, fresh, accept, step}
use Rattle.creek.specs.History.{idled}
use Rattle.creek.specs.Showing.{owed_shown, undos_shown, executions_shown}
use Rattle.creek.specs.internal.Sound.{most_requests, Sound}
use Rattle.creek.proofs.CallLaws.{by-outcome}
use Rattle.creek.proofs.AcceptanceLaws.{commits}
use Rattle.creek.proofs.EnteredLaws.{entered-count}
use Rattle.creek.proofs.CommittedLaws.{committing-count}
use Rattle.creek.proofs.SoundLaws.{step_sound, fresh_sound}
use Rattle.creek.proofs.DueLaws.{later_plan, later_sound}
use Rattle.creek.proofs.BoundLaws.{few_undos}
use Rattle.fields.proofs.IntegerLaws.{Bytes}
use Rattle.wire.specs.Layout.{least_message}
use Rattle.wire.specs.declared.Message.TheVariants.{Request as request, Settlement as settlement}
use Rattle.wire.specs.Message.{BusMessage, kind_of}
use Rattle.wire.specs.Reader.{Outcome, message, end, refused, read_at}
use Rattle.wire.proofs.KindLaws.{kind_laws}
use Rattle.intake.specs.Intake.{call_of}
use Rattle.runs.specs.Found.{found_from}
use Rattle.runs.proofs.FoundLaws.{bytes_of, Takes, whole, all, takes, taken_within, one_found, none_found}
use Rattle.report.specs.Sizes.{most_message_bytes, most_totals_bytes, most_registers_bytes}
use Rattle.report.proofs.SizeLaws.{board_short, refused_short, message_short, unread_short, totals_short, registers_short}
use Rattle.printed.specs.Printout.{most_input, shop_bytes, after, after_all, line_of_message, line_for, refusal_in, undone_in}
use Rattle.printed.specs.Printout.{message_lines, closing, printout_of, printout, most_messages, most_printed, printed_text, after_print}
use Rattle.printed.proofs.NarrowLaws.{answer-byte, NarrowMessage, Narrow, found_narrow}

-- ---- a replica whose numbers fit

-- x's amount is no register's value
abbrev too_wide : Request → Bool
too_wide x = not (ltb x.asked.amount range)

-- r is sound, and no request that it holds has such an amount
record Bounded (r : Replica) : Type 0 where
  sound : Sound r
  narrow : count too_wide (order r.book.plan) ≡ 0

accept_narrow : (r : Replica) (m : BusMessage) → refusal r.book (call_of m) ≡ refused_by.accepted → NarrowMessage m → Bounded r
    → count too_wide (order (accept r (call_of m)).book.plan) ≡ 0
unfolding call_of accept accepted refusal
accept_narrow r (request x) taken narrow i =
    let fits : one (too_wide x) ≡ 0 = rw (lt-ltb x.asked.amount range narrow.amount) in
    omega (arith, entered-count r.book.plan x too_wide, i.narrow)
accept_narrow r (settlement n) taken narrow i =
    let c = commits r.book.plan n taken in
    rw c.leads (omega (arith, committing-count r.book.plan c.request c.found i.sound.plan too_wide, i.narrow))

step_bounded : (r : Replica) (m : BusMessage) → NarrowMessage m → Bounded r → Bounded (step r (call_of m))
step_bounded r m narrow i = record {
  sound = step_sound r (call_of m) i.sound;
  narrow =
      by-outcome (λ v w q. count too_wide (order q.book.plan) ≡ 0) r (call_of m)
      (λ taken. accept_narrow r m taken narrow i) i.narrow;
}

idled_bounded : (r : Replica) → Bounded r → Bounded (idled r)
idled_bounded r i = record {
  sound = later_sound (owed_shown r) r i.sound;
  narrow = rw (later_plan (owed_shown r) r) i.narrow;
}

after_bounded : (r : Replica) (o : Outcome) → Narrow o → Bounded r → Bounded (after r o)
unfolding after
after_bounded r (message m n) narrow i = idled_bounded (step r (call_of m)) (step_bounded r m narrow i)
after_bounded r end narrow i = i
after_bounded r (refused w) narrow i = i

all_bounded : (r : Replica) (os : List Outcome) → All Narrow os → Bounded r → Bounded (after_all r os)
unfolding after_all
all_bounded r [] narrow i = i
all_bounded r (o ∷ os) narrow i = all_bounded (after r o) os narrow.1 (after_bounded r o narrow.0 i)

fresh_bounded : (panels own : ℕ) → Bounded (fresh panels own)
unfolding fresh
fresh_bounded panels own = record {
  sound = fresh_sound panels own;
  narrow = either (λ (r : Replica). count too_wide (order r.book.plan) ≡ 0) (bad_shop panels own) (λ e. refl) (λ e. refl);
}

-- ---- its closing lines

replay_in_range : (b : List ℕ) (l : List Request) → InRange b → count too_wide l ≡ 0 → InRange (replay_on b (operations l))
unfolding replay_on
replay_in_range b [] low none = low
replay_in_range b (x ∷ xs) low none =
    let fits = ltb-true x.asked.amount range (not-false _ (one_zero (too_wide x) (omega arith))) in
    replay_in_range (exec (operation_of x.asked) b) xs (exec_in_range (operation_of x.asked) b fits low) (omega arith)

zeros_in_range : (n : ℕ) → InRange (replicate n 0)
zeros_in_range zero k = lit< tt
zeros_in_range (suc n) zero = lit< tt
zeros_in_range (suc n) (suc k) = zeros_in_range n k

registers_in_range : (r : Replica) → Bounded r → InRange (registers r.book.execution)
unfolding registers replay
registers_in_range r i =
    let few = i.sound.board_held too_wide in
    replay_in_range zero_board (board r.book.execution) (zeros_in_range (suc last_register)) (omega (arith, few, i.narrow))

pub registers-count : (r : Replica) → length (registers r.book.execution) ≡ suc last_register
unfolding registers
registers-count r = replay-length (operations (board r.book.execution))

closing_fits : (r : Replica) → Bounded r → length (closing r) ≤ most_totals_bytes + most_registers_bytes
unfolding closing
closing_fits r i =
    let a = r.book.plan in
    let e = r.book.execution in
    let sound = i.sound in
    let lists = length-append a.committed a.tentative in
    let on_board_is : length (board e) ≤ most_requests =
    omega (arith, sound.board_held (λ x. true), count_all (board e), count_all (order a), sound.few) in
    let undone = few_undos r sound in
    let totals =
    totals_short (length a.committed) (length a.tentative) (undos_shown r) (executions_shown r)
    (omega (arith, lists, sound.few)) (omega (arith, lists, sound.few)) (omega (arith, undone))
    (omega (arith, undone, sound.on_board_is)) in
    let values = registers_short (registers e) (registers-count r) (registers_in_range r i) in
    rw length-append (omega arith)

-- ---- the lines of messages

line_fits : (place : ℕ) (r : Replica) (o : Outcome) → place < 2 ^ 32 → Narrow o → Bounded (after r o)
    → length (line_for place o (refusal_in r o) (undone_in r o)) ≤ most_message_bytes
unfolding line_for line_of_message refusal_in
line_fits place r (message m n) low narrow i =
    let undone = few_undos (after r (message m n)) i.sound in
    message_short place _ _ _ _ _ low (kind_laws (kind_of m)).small narrow.panel narrow.event (answer-byte r m) (omega arith)
line_fits place r end low narrow i = omega arith
line_fits place r (refused w) low narrow i = unread_short place w low narrow

lines_fit : (place : ℕ) (r : Replica) (os : List Outcome) → place + length os ≤ 2 ^ 32 → All Narrow os → Bounded r
    → length (message_lines place r os) ≤ length os * most_message_bytes
unfolding message_lines
lines_fit place r [] low narrow i = omega arith
lines_fit place r (o ∷ os) low narrow i =
    let next = after_bounded r o narrow.0 i in
    let first = line_fits place r o (omega arith) narrow.0 next in
    let others = lines_fit (suc place) (after r o) os (omega arith) narrow.1 next in
    rw length-append (omega arith)

-- ---- how many are found

-- so many messages, in so many bytes, are at most one more than messages of the shortest length
abbrev Few : ℕ → ℕ → Type 0
Few messages bytes = least_message * messages < bytes + least_message

-- one that takes n of the bytes left, and the others behind it
one_more : (left n others : ℕ) → 1 ≤ left → Takes left n → (left ≤ n → others ≡ 0) → Few others (left - n) → Few (suc others) left
one_more left n others some (whole least most) none few = omega arith
one_more left n others some (all is) none few = let last = none (omega arith) in omega arith

module _ (s : List ℕ) (at : ℕ) where
  -- the bytes of what stands at the place
  abbrev here : ℕ
  here = bytes_of (read_at s at) (length s - at)

  from_here : (at < length s → Few (length (found_from s (at + here))) (length s - (at + here)))
      → Few (length (found_from s at)) (length s - at)
  from_here behind = go (ltb at (length s)) refl
    where
      go : (inside : Bool) → ltb at (length s) ≡ inside → Few (length (found_from s at)) (length s - at)
      go true e =
          let below = ltb-true at (length s) e in
          let last : length s - at ≤ here → length (found_from s (at + here)) ≡ 0 = λ all. rw (none_found s (at + here) (omega arith)) in
          let others : Few (length (found_from s (at + here))) (length s - at - here) = omega (arith, behind below) in
          rw (one_found s at below) (one_more (length s - at) here _ (omega arith) (takes s at below) last others)
      go false e = rw (none_found s at (ltb-false at (length s) e)) (omega arith)

-- at most `most` bytes are left
found-few : (most : ℕ) (s : List ℕ) (at : ℕ) → length s - at ≤ most → Few (length (found_from s at)) (length s - at)
found-few zero s at left = rw (none_found s at (omega arith)) (omega arith)
found-few (suc most) s at left =
    from_here s at (λ below.
    let some = (taken_within (length s - at) (here s at) (takes s at below) (omega arith)).0 in
    found-few most s (at + here s at) (omega arith))

-- ---- the whole

module _ (s : List ℕ) (bytes : Bytes s) (short : length s ≤ most_input) where
  opened_fits : shop_bytes ≤ length s
      → length (printout_of (get_or s 0 0) (get_or s 1 0) (found_from s shop_bytes)) ≤ most_printed
  unfolding printout_of
  opened_fits shop =
      let os = found_from s shop_bytes in
      let r = fresh (get_or s 0 0) (get_or s 1 0) in
      let narrow = found_narrow s shop_bytes 0 (length s - shop_bytes) bytes in
      let few : length os ≤ most_messages = omega (arith, found-few (length s) s shop_bytes (omega arith)) in
      let first = board_short (get_or s 0 0) (get_or s 1 0) (bytes 0) (bytes 1) in
      let lines = lines_fit 1 r os (omega arith) narrow (fresh_bounded (get_or s 0 0) (get_or s 1 0)) in
      let last = closing_fits (after_all r os) (all_bounded r os narrow (fresh_bounded (get_or s 0 0) (get_or s 1 0))) in
      simp length-append (omega arith)

  -- the printout of bytes is never longer
  pub printout_fits : length (printout s) ≤ most_printed
  unfolding printout
  printout_fits =
      either (λ (text : List ℕ). length text ≤ most_printed) (ltb (length s) shop_bytes)
      (λ e. omega (arith, refused_short refused_by.cut_short (lit< tt)))
      (λ e. either (λ (text : List ℕ). length text ≤ most_printed) (bad_shop (get_or s 0 0) (get_or s 1 0))
      (λ bad. omega (arith, refused_short refused_by.bad_shop (lit< tt)))
      (λ good. opened_fits (ltb-false (length s) shop_bytes e)))

bytes_take : (n : ℕ) (s : List ℕ) → Bytes s → Bytes (take n s)
bytes_take zero s bytes i = lit< tt
bytes_take (suc n) [] bytes i = lit< tt
bytes_take (suc n) (b ∷ s) bytes zero = bytes 0
bytes_take (suc n) (b ∷ s) bytes (suc i) = bytes_take n s (λ k. bytes (suc k)) i

-- what is put is never longer than the lent bytes
pub text_fits : (input : List ℕ) (lent : ℕ) → Bytes input → length (printed_text input lent) ≤ lent
unfolding printed_text
text_fits input lent bytes =
    either (λ (text : List ℕ). length text ≤ lent) (ltb lent most_printed) (λ e. omega arith)
    (λ e.
    let fits = printout_fits (take most_input input) (bytes_take most_input input bytes) (simp length-take (omega arith)) in
    omega (arith, ltb-false lent most_printed e))

-- so they stay as many
pub after-length : (input out : List ℕ) → Bytes input → length (after_print input out) ≡ length out
unfolding after_print
after-length input out bytes = simp (length-append, length-drop) (omega (arith, text_fits input (length out) bytes))
