-- Laws of the messages and their lines, in this order: what a receipt tells; a message's line; the loop over all that is found.
use Prim.Native.Nat.{ℕ, ◌+◌, ◌*◌, ◌-◌, ◌≤◌, ◌<◌, ◌^◌}
use mathlib.Core.Path.{◌≡◌, refl, sym, ap, ◌∙◌, subst}
use mathlib.Core.Bool.{Bool, true, false, cond}
use mathlib.Core.List.{List, [], ◌∷◌, ◌++◌}
use native.Mathlib.Numerals.{add-one}
use native.Mathlib.Omega.{arith}
use lib.ListN.{length}
use borrow.Rule.Slice.PartMut.{mid_of, put_mid}
use Rattle.text.specs.Written.{Written}
use Rattle.text.proofs.WrittenLaws.{Left, left_start, left_put, left_end}
use Rattle.report.specs.Lines.{message_line, unread_line}
use Rattle.report.specs.Sizes.{most_message_bytes}
use Rattle.report.proofs.SizeLaws.{unread_short}
use Rattle.creek.specs.declared.Answer.{Answer}
use Rattle.creek.specs.Replies.{reply_answer}
use Rattle.creek.specs.Book.{deliver, commit, is_accepted}
use Rattle.creek.specs.Calls.{Replica, accept, step}
use Rattle.creek.specs.History.{idled}
use Rattle.creek.specs.Showing.{undos_shown}
use Rattle.creek.proofs.DueLaws.{undos-done}
use Rattle.due.specs.Due.{DueOutcome, RunDue}
use Rattle.replica.specs.State.{State}
use Rattle.replica.specs.internal.Model.{model, Inv}
use Rattle.wire.specs.Layout.{least_message}
use Rattle.wire.specs.declared.Message.TheVariants.{Request as request, Settlement as settlement}
use Rattle.wire.specs.Message.{BusMessage}
use Rattle.wire.specs.Reader.{Outcome, message, end, refused, taken_of, read_at}
use Rattle.wire.proofs.ReaderLaws.{not_at_end}
use Rattle.wire.proofs.RoundTrip.{taken_least, taken_inside}
use Rattle.intake.specs.declared.Receipt.{Receipt}
use Rattle.intake.specs.Intake.{call_of, answer_to, number_told, kind_told, received, Received}
use Rattle.runs.specs.Found.{found_from}
use Rattle.runs.proofs.FoundLaws.{bytes_of, one_found, none_found}
use Rattle.printed.specs.Printout.{after, after_all, refusal_in, undone_in, line_of_message, line_for, message_lines}
use Rattle.printed.specs.Printout.{shop_bytes, most_messages, most_input}
use Rattle.message_lines.specs.LinesPut.{LinePut, Idle, AllPut}

-- ---- what a receipt tells

message_by : (o : Outcome) (r : Receipt) → r.taken ≡ taken_of o → (r.taken ≡ 0 → ⊥)
    → (m : BusMessage) × (o ≡ message m r.taken)
message_by (message m n) r e took = (m, ap (message m) (sym e))
message_by end r e took = absurd (took e)
message_by (refused w) r e took = absurd (took e)

refused_by_lem : (p : Replica) (o : Outcome) (r : Receipt) → r.taken ≡ taken_of o → reply_answer r.reply ≡ answer_to p o
    → (o ≡ end → ⊥) → ((m : BusMessage) (n : ℕ) → o ≡ message m n → least_message ≤ n) → r.taken ≡ 0 → o ≡ refused r.reply.refusal
unfolding answer_to
refused_by_lem p (message m n) r e a more least untaken = absurd (omega (arith, least m n refl))
refused_by_lem p end r e a more least untaken = absurd (more refl)
refused_by_lem p (refused w) r e a more least untaken = ap refused (sym (ap (λ (x : Answer). x.refusal) a))

-- the message that was received where bytes were taken
message_there : {p q : State} {r : Receipt} (s : List ℕ) (at : ℕ) → Received p (read_at s at) r q → (r.taken ≡ 0 → ⊥)
    → (m : BusMessage) × (read_at s at ≡ message m r.taken)
message_there {r = r} s at got took = message_by (read_at s at) r got.taken took

-- ---- a message's line

-- it is made of what the receipt tells
line-told : {p q : State} {r : Receipt} {o : Outcome} (m : BusMessage) (n : ℕ) → Received p o r q → o ≡ message m n
    → (place refusal undone : ℕ)
    → line_of_message place m refusal undone ≡ message_line place r.kind r.number.panel.0 r.number.event.0 refusal undone
unfolding line_of_message number_told kind_told
line-told m n got is place refusal undone =
    rw (got.kind ∙ ap kind_told is, got.number ∙ ap number_told is)

-- the lines of a message and of what is found behind it
lines_next : (place : ℕ) (r r₁ : Replica) (m : BusMessage) (n refusal undone : ℕ) (rest : List Outcome) → r₁ ≡ after r (message m n)
    → refusal ≡ refusal_in r (message m n) → undone ≡ undone_in r (message m n)
    → message_lines place r (message m n ∷ rest) ≡ line_of_message place m refusal undone ++ message_lines (place + 1) r₁ rest
unfolding message_lines line_for
lines_next place r r₁ m n refusal undone rest e f g = rw (add-one, e, f, g)

-- ---- the loop

pub undos_are : (p : State) → p.counters.undos ≡ undos_shown (model p)
unfolding model
undos_are p = refl

-- no message counts an undo
received_undos : (r : Replica) (o : Outcome) → undos_shown (received r o) ≡ undos_shown r
unfolding received call_of step accept
received_undos r (message (request x) n) = go (is_accepted r.book (deliver x))
  where
    go : (b : Bool) → undos_shown (cond b (accept r (deliver x)) r) ≡ undos_shown r
    go true = omega arith
    go false = refl
received_undos r (message (settlement m) n) = go (is_accepted r.book (commit m))
  where
    go : (b : Bool) → undos_shown (cond b (accept r (commit m)) r) ≡ undos_shown r
    go true = omega arith
    go false = refl
received_undos r end = refl
received_undos r (refused w) = refl

pub same_undos : {p q : State} {o : Outcome} {r : Receipt} → Received p o r q → q.counters.undos ≡ p.counters.undos
same_undos {p} {q} {o} got = undos_are q ∙ ap undos_shown got.state ∙ received_undos (model p) o ∙ sym (undos_are p)

-- every due step was done, of which so many were undos
pub idle-by : {p : State} {r : DueOutcome} → RunDue p r → Idle p r.state r.undos
idle-by {p} {r} ran = record {
  state = ran.state;
  counted = omega (arith, undos_are r.state, ap undos_shown ran.state, undos-done (model p), undos_are p, ran.undos);
  invariant = ran.invariant;
}

-- what was put and received up to a place, where what is left to do from there is the whole job
pub record Putting (p₀ : State) (s out : List ℕ) (p : State) (out₁ : List ℕ) (at behind place : ℕ) : Type 0 where
  pub inside : at ≤ length s
  pub invariant : Inv p
  pub state : after_all (model p) (found_from s at) ≡ after_all (model p₀) (found_from s shop_bytes)
  pub lines : Left out (message_lines 1 (model p₀) (found_from s shop_bytes)) out₁ behind (message_lines place (model p) (found_from s at))
  pub few : behind + most_message_bytes ≤ place * most_message_bytes
  -- each message took the bytes of the shortest
  pub paced : least_message * place + shop_bytes ≤ at + least_message

pub put_start : (s out : List ℕ) (p : State) → Inv p → shop_bytes ≤ length s → Putting p s out p out shop_bytes 0 1
put_start s out p inv h = record {
  inside = h;
  invariant = inv;
  state = refl;
  lines = left_start out (message_lines 1 (model p) (found_from s shop_bytes));
  few = omega arith;
  paced = omega arith;
}

module _ {p₀ : State} {s out : List ℕ} {p : State} {out₁ : List ℕ} {at behind place : ℕ}
    (put : Putting p₀ s out p out₁ at behind place) where
  pub put-end : length s ≤ at → length s ≤ most_input → AllPut p₀ s out p out₁ behind
  unfolding after_all message_lines
  put-end past low = record {
    state = rw (none_found s at past) at put.state;
    invariant = put.invariant;
    lines = left_end (rw (none_found s at past) at put.lines);
    few = omega (arith, put.few, put.paced, put.inside);
  }

  module _ (below : at < length s) where
    pub line_room : most_messages * most_message_bytes ≤ length out → length s ≤ most_input
        → (behind + most_message_bytes ≤ length out₁) × (place ≤ most_input)
    line_room room low = (omega (arith, put.few, put.paced, put.lines.size), omega (arith, put.paced))

    module _ {r : Receipt} {q : State} (got : Received p (read_at s at) r q) where
      -- what cannot be read is the last that is found
      pub put_last : {new : List ℕ} {n : ℕ} → r.taken ≡ 0 → length s ≤ most_input → r.reply.refusal < 2 ^ 8
          → most_messages * most_message_bytes ≤ length out
          → Written (mid_of behind (length out₁ - behind) out₁) (unread_line place r.reply.refusal) new n
          → AllPut p₀ s out q (put_mid behind (length out₁ - behind) out₁ new) (behind + n)
      unfolding after_all after message_lines line_for received
      put_last untaken low small room w =
          let f = r.reply.refusal in
          let is : read_at s at ≡ refused f =
          refused_by_lem (model p) (read_at s at) r got.taken got.answer (not_at_end s at below) (taken_least s at) untaken in
          let last : found_from s at ≡ refused f ∷ [] =
          one_found s at below ∙ rw is (ap (λ (l : List Outcome). refused f ∷ l) (none_found s (at + (length s - at)) (omega arith))) in
          let stays : model q ≡ model p = got.state ∙ rw is in
          let short = unread_short place f (omega (arith, put.paced)) small in
          record {
            state = stays ∙ rw last at put.state;
            invariant = got.invariant;
            lines = left_end (left_put [] (omega (arith, (line_room room low).0, short)) w (rw last at put.lines));
            few = omega (arith, put.few, put.paced, w.count, short);
          }

      module _ (took : r.taken ≡ 0 → ⊥) where
        -- at least the shortest message lies within the bytes, and what was taken does
        pub within : (at + least_message ≤ length s) × (least_message ≤ r.taken) × (at + r.taken ≤ length s)
        within =
            let there = message_there s at got took in
            let least = taken_least s at there.0 r.taken there.1 in
            let inside = taken_inside s at there.0 r.taken there.1 in
            (omega arith, least, inside)

        module _ {q₁ : State} {n₁ : ℕ} (ran : Idle q q₁ n₁) where
          pub put_step : {new : List ℕ} {n : ℕ} → behind + most_message_bytes ≤ length out₁
              → LinePut place r.kind r.number r.reply.refusal n₁ (mid_of behind (length out₁ - behind) out₁) new n
              → Putting p₀ s out q₁ (put_mid behind (length out₁ - behind) out₁ new) (at + r.taken) (behind + n) (place + 1)
          unfolding after_all after refusal_in answer_to received
          put_step fits w =
              let there = message_there s at got took in
              let m = there.0 in
              let n = r.taken in
              let is = there.1 in
              let rest = found_from s (at + n) in
              let one : found_from s at ≡ message m n ∷ rest =
              one_found s at below ∙ ap (λ (o : Outcome). o ∷ found_from s (at + bytes_of o (length s - at))) is in
              let stands : model q₁ ≡ after (model p) (message m n) =
              ran.state ∙ ap idled (got.state ∙ ap (received (model p)) is) in
              let refusal : r.reply.refusal ≡ refusal_in (model p) (message m n) =
              ap (λ (a : Answer). a.refusal) (got.answer ∙ ap (answer_to (model p)) is) in
              let undone : n₁ ≡ undone_in (model p) (message m n) =
              omega (arith, ran.counted, same_undos got, undos_are p, undos_are q₁, ap undos_shown stands) in
              let lines =
              ap (message_lines place (model p)) one ∙ lines_next place (model p) (model q₁) m n _ _ rest stands refusal undone
              ∙ ap (λ (l : List ℕ). l ++ message_lines (place + 1) (model q₁) rest) (line-told m n got is place _ _) in
              let whole = message_lines 1 (model p₀) (found_from s shop_bytes) in
              let size = within in
              record {
                inside = size.2;
                invariant = ran.invariant;
                state = ap (λ (x : Replica). after_all x rest) stands ∙ sym (ap (after_all (model p)) one) ∙ put.state;
                lines = left_put _ (omega (arith, fits, w.few, w.written.count)) w.written (subst (Left out whole out₁ behind) lines put.lines);
                few = omega (arith, put.few, w.few);
                paced = omega (arith, put.paced, size.1);
              }
