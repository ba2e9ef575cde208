-- The whole outcome of an accepted settlement, from one equation for each value that is computed.
use Prim.Native.Nat.{ℕ, ◌+◌, ◌-◌, ◌≤◌, min}
use native.Mathlib.Omega.{arith}
use mathlib.Core.Path.{◌≡◌, refl, sym, ap, ◌∙◌, subst}
use mathlib.Core.Bool.{Bool, true, false, ◌&&◌, cond}
use mathlib.Core.List.{List}
use mathlib.Core.Option.{Option}
use lib.ListN.{length, take, drop, get_or, length-append}
use lib.Seq.{slice, take-take, take-append-le, length-take-le}
use lib.Dec.{eqb, leb}
use borrow.Author.Tests.{eq-eqb, leb-true}
use Rattle.sets.specs.declared.Context.{Context}
use Rattle.numbers.specs.declared.Number.{Number}
use Rattle.request.specs.declared.Request.{Request}
use Rattle.numbers.specs.Numbers.{most_panels, no_number}
use Rattle.numbers.specs.internal.Slots.{slot_of}
use Rattle.sets.specs.Sets.{set_of, member, join}
use Rattle.lists.specs.Lists.{find, common_start}
use Rattle.lists.proofs.BoolLaws.{true_not_false, both_true}
use Rattle.lists.proofs.ListLaws.{count_most}
use Rattle.ordering.specs.Slots.{PartsAsk}
use Rattle.slots.specs.Settlement.{settled, SettlementAsks, Settled, MovesAsk}
use Rattle.slots.specs.Marks.{Marks, Marked}
use Rattle.ordering.proofs.SlotLaws.{common_from, common_until}
use Rattle.slots.proofs.SettlementLaws.{unmoved_behind}
use Rattle.creek.specs.declared.Answer.{Answer}
use Rattle.creek.specs.Plan.{has_number, last_event, last_clock, committing, committing_found}
use Rattle.creek.specs.internal.Stack.{stacked}
use Rattle.creek.specs.Book.{commit, Book, refusal, is_accepted, accepted, planned}
use Rattle.creek.specs.Replies.{stable_mark, reply, done, stable_reply_due, settlement_reply, accepted_answer, awaiting_after, accepted_awaiting}
use Rattle.creek.specs.Calls.{accept, step}
use Rattle.creek.specs.internal.Sound.{Sound, most_requests}
use Rattle.creek.proofs.CallLaws.{answer-accepted, step-accepted}
use Rattle.creek.proofs.AwaitingLaws.{awaiting-length, awaited-before}
use Rattle.creek.proofs.LookupLaws.{last_event-committing, last_clock-committing}
use Rattle.creek.proofs.SoundLaws.{step_sound}
use Rattle.replica.specs.State.{State}
use Rattle.replica.specs.Promises.{Kept}
use Rattle.replica.specs.internal.Model.{order_of, board_of, plan_of, book_of, model, Inv}
use Rattle.settling.specs.Settling.{agreed, settled_answer}
use Rattle.replica.proofs.States.{settled_state}
use Rattle.replica.proofs.ModelLaws.{executed_follows}
use Rattle.settling.proofs.SettlingHeldLaws.{kept_at, number_at, context_at, sound_plan, HeldAt, held_slot, held_number}
use Rattle.settling.proofs.SettlingRefusalLaws.{Settles, settlement-accepted, tentative-found}
use Rattle.settling.proofs.SettlingPlanLaws.{Found, settlement_asks, Settlement, committed_most, order-count, order_slots_then}
use Rattle.settling.proofs.SettlingMovesLaws.{moves_by_state, marks_by_state}
use Rattle.settling.proofs.SettlingPlanLaws.{committed_then, tentative_then}
use Rattle.settling.proofs.SettlingExecutionLaws.{executed_most, executed_ordered, execution_then, stays_executed, response-kept}

-- the settlements accepted are at most the requests held
pub commits_fit : (p : State) → Inv p → p.commits ≤ most_requests
unfolding model book_of
commits_fit p inv =
    let a = plan_of p in
    omega (
      arith,
      inv.sound.commits_strong,
      count_most (λ (x : Request). x.asked.strong) a.committed,
      length-append a.committed a.tentative,
      inv.sound.few,
    )

-- ---- the answer, by whether a stable reply is due

same_answer : (b due : Bool) (v w : ℕ) → due ≡ b → (due ≡ true → v ≡ w)
    → cond b (reply no_number w stable_mark) done ≡ settled_answer due v
same_answer true true v w e h = rw (h refl)
same_answer false false v w e h = refl
same_answer true false v w e h = true_not_false e refl
same_answer false true v w e h = true_not_false refl e

-- ---- the outcome, under the number of the request at slot s

module _ {p : State} {s : ℕ} {order : List ℕ} {committed executed : ℕ} (h : Settlement p s order committed executed)
    (taken : is_accepted (book_of p) (commit (number_at p s)) ≡ true)
    {response : ℕ} (kept : response ≡ get_or p.responses (committed - 1) 0)
    {due : Bool} (awaited : due ≡ (member p.awaiting (number_at p s) && leb committed executed))
    {known : List ℕ} (joined : set_of known ≡ join p.known (number_at p s))
    {awaiting : List ℕ} (left : set_of awaiting ≡ awaiting_after p.awaiting (number_at p s) (settled_answer due response).mark)
    {marked : List ℕ} (marks : Marks order committed marked) (long : length marked ≡ most_panels) where
  abbrev inv : Inv p
  inv = h.invariant

  abbrev q : State
  q = settled_state p order committed executed known awaiting marked

  plan_then : plan_of q ≡ committing (plan_of p) (kept_at p s)
  unfolding plan_of committing
  plan_then = λ i. record {
    panels = p.panels;
    own = p.own.0;
    known = joined i;
    committed = committed_then h i;
    tentative = tentative_then h i;
  }

  book-accepted : accepted (book_of p) (commit (number_at p s))
      ≡ planned (committing (plan_of p) (kept_at p s)) (stacked (board_of p) p.executed (order_of p))
  unfolding accepted book_of committing_found
  book-accepted =
      ap (λ (f : Option Request). planned (committing_found (plan_of p) f) (stacked (board_of p) p.executed (order_of p))) h.found

  book_then : book_of q ≡ planned (committing (plan_of p) (kept_at p s)) (stacked (board_of p) p.executed (order_of p))
  unfolding book_of
  book_then = λ i. record { plan = plan_then i; execution = execution_then h i }

  -- the reply is due, and its response is the one kept
  reply_then : settlement_reply (book_of q) p.awaiting (number_at p s) ≡ settled_answer due response
  unfolding settlement_reply stable_reply_due book_of
  reply_then =
      same_answer _ due response _ (awaited ∙ ap (λ (b : Bool). member p.awaiting (number_at p s) && b) (sym (stays_executed h)))
      (λ e. kept ∙ response-kept h (leb-true committed executed (both_true (member p.awaiting (number_at p s)) _ (sym awaited ∙ e)).1))

  answer_then : accepted_answer (book_of p) p.awaiting (commit (number_at p s)) ≡ settled_answer due response
  unfolding accepted_answer
  answer_then = ap (λ (b : Book). settlement_reply b p.awaiting (number_at p s)) (book-accepted ∙ sym book_then) ∙ reply_then

  awaiting_then : accepted_awaiting (book_of p) p.awaiting (commit (number_at p s)) ≡ set_of awaiting
  unfolding accepted_awaiting
  awaiting_then =
      ap (λ (a : Answer). awaiting_after p.awaiting (number_at p s) a.mark) answer_then ∙ sym left

  accept_then : model q ≡ accept (model p) (commit (number_at p s))
  unfolding model accept
  accept_then =
      let undos : p.counters.undos ≡ p.counters.undos + 0 = omega arith in
      let executions : p.counters.executions ≡ p.counters.executions + 0 = omega arith in
      λ i. record {
        book = (book_then ∙ sym book-accepted) i;
        awaiting = sym awaiting_then i;
        commits = p.commits + 1;
        counters = record { undos = undos i; executions = executions i };
      }

  state_then : model q ≡ step (model p) (commit (number_at p s))
  unfolding model
  state_then = accept_then ∙ sym (step-accepted (model p) (commit (number_at p s)) taken)

  invariant_then : Inv q
  invariant_then = record {
    counts = record {
      committed = committed_most h;
      ordered = inv.counts.ordered;
      executed = omega (arith, inv.counts, executed_most h);
      stacked = inv.counts.stacked;
      done = executed_ordered h;
    };
    lengths = record {
      requests = inv.lengths.requests;
      order = h.settled.long;
      stack = inv.lengths.stack;
      saved = inv.lengths.saved;
      responses = inv.lengths.responses;
      held = inv.lengths.held;
      awaiting = ap (λ (c : Context). length c.words) left ∙ awaiting-length p.awaiting (number_at p s) (settled_answer due response).mark ∙ inv.lengths.awaiting;
      settled = long;
    };
    held = λ t slot. order-count h (eqb t) ∙ inv.held t slot;
    settled = marks;
    order_slots_is = order_slots_then h;
    board_slots_is = inv.board_slots_is;
    log = inv.log;
    events = inv.events ∙ sym (ap last_event plan_then ∙ last_event-committing (plan_of p) (kept_at p s) h.found (sound_plan inv));
    clock = inv.clock ∙ sym (ap last_clock plan_then ∙ last_clock-committing (plan_of p) (kept_at p s) h.found (sound_plan inv));
    awaiting_own = λ n e.
        inv.awaiting_own n
        (awaited-before p.awaiting (number_at p s) (settled_answer due response).mark n (ap (λ (c : Context). member c n) (sym left) ∙ e));
    sound = subst Sound (sym state_then) (step_sound (model p) (commit (number_at p s)) inv.sound);
  }

  settled_under : {a : Answer} → a ≡ settled_answer due response → Kept p (commit (number_at p s)) (record { answer = a; state = q })
  unfolding model
  settled_under answered = record {
    answer = answered ∙ sym (answer-accepted (book_of p) p.awaiting (commit (number_at p s)) taken ∙ answer_then);
    state = state_then;
    unchanged = λ e. true_not_false taken e;
    invariant = invariant_then;
  }

-- ---- the outcome of `commit`

module _ {p : State} {n : Number} {s : ℕ} (inv : Inv p) (here : HeldAt p n s) (t : Settles p n s) where
  found : Found p s
  found = ap (λ (m : Number). find (has_number m) (plan_of p).tentative) (held_number inv here) ∙ tentative-found inv here t

  commit_asks : SettlementAsks p.order p.committed p.ordered (context_at p s).words s
  commit_asks = settlement_asks inv (held_slot inv here) found

  pub moves_asks : MovesAsk p.order p.clocks p.committed p.ordered (context_at p s).words p.settled.words s
  moves_asks = moves_by_state p inv (context_at p s) t.whole s commit_asks

  taken : is_accepted (book_of p) (commit (number_at p s)) ≡ true
  taken = eq-eqb _ _ (ap (λ (m : Number). refusal (book_of p) (commit m)) (held_number inv here) ∙ settlement-accepted inv here t)

  -- the executed list agrees with the order up to where the settlement changes it, and behind the last slot that it moves
  module _ {order : List ℕ} {committed end same last : ℕ}
      (d : Settled p.order p.committed p.ordered (context_at p s).words s order committed end)
      (lowest : same ≡ min p.executed p.committed) (latest : last ≡ min p.executed end) where
    start-low : same ≤ last
    start-low = omega (arith, d.committed, d.moved)

    pub start_asks : PartsAsk p.stack last order p.ordered same
    start_asks = record {
      first = start-low;
      first_inside = omega (arith, inv.counts);
      first_long = inv.lengths.stack;
      second = omega (arith, inv.counts);
      second_inside = inv.counts.ordered;
      second_long = d.long;
    }

    agrees : take same p.stack ≡ take same order
    agrees =
        let front = take p.committed p.order in
        let rest = settled (context_at p s).words s (slice p.committed p.ordered p.order) in
        sym (take-take same p.executed p.stack (omega arith))
        ∙ ap (take same) (executed_follows p inv)
        ∙ take-take same p.executed p.order (omega arith)
        ∙ sym (sym (take-take same p.ordered order (omega (arith, inv.counts)))
        ∙ ap (take same) d.first
        ∙ take-append-le same front rest
        (omega (arith, length-take-le p.committed p.order (omega (arith, inv.counts, inv.lengths.order))))
        ∙ take-take same p.committed p.order (omega arith))

    agrees_behind : slice last p.executed p.stack ≡ slice last p.executed order
    agrees_behind = ap (drop last) (executed_follows p inv) ∙ sym (unmoved_behind _ _ _ _ _ _ _ _ commit_asks d p.executed last latest)

    common_is : agreed p.executed last (same + common_start eqb (slice same last p.stack) (slice same p.ordered order))
        ≡ common_start eqb (take p.executed p.stack) (take p.ordered order)
    common_is =
        let stack-inside : p.executed ≤ length p.stack = omega (arith, inv.counts, inv.lengths.stack) in
        let order-inside : p.ordered ≤ length order = omega (arith, inv.counts, d.long) in
        ap (agreed p.executed last)
        (common_from p.stack order last p.ordered same start-low start_asks.second (omega arith) order-inside agrees)
        ∙ sym (common_until p.stack order p.executed p.ordered last (omega arith) inv.counts.done stack-inside order-inside
        agrees_behind)

  pub settled-kept : {order : List ℕ} {committed end same last start executed response : ℕ} {due : Bool} {known awaiting marked : List ℕ}
      {a : Answer}
      → Settled p.order p.committed p.ordered (context_at p s).words s order committed end
      → same ≡ min p.executed p.committed
      → last ≡ min p.executed end
      → start ≡ same + common_start eqb (slice same last p.stack) (slice same p.ordered order)
      → executed ≡ agreed p.executed last start
      → response ≡ get_or p.responses (committed - 1) 0
      → due ≡ (member p.awaiting n && leb committed executed)
      → set_of known ≡ join p.known n
      → a ≡ settled_answer due response
      → set_of awaiting ≡ awaiting_after p.awaiting n a.mark
      → Marked p.settled.words (context_at p s).words (slot_of n) marked
      → Kept p (commit n) (record { answer = a; state = settled_state p order committed executed known awaiting marked })
  settled-kept {order} {committed} {end} {last = last} {executed = executed} {response} {due} {known} {awaiting} {marked} {a}
      d lowest latest common stays kept awaited joined answered left marks =
      let number : n ≡ number_at p s = sym (held_number inv here) in
      let h : Settlement p s order committed executed =
      record {
        invariant = inv;
        slot = held_slot inv here;
        found = found;
        end = end;
        settled = d;
        common = stays ∙ ap (agreed p.executed last) common ∙ common_is d lowest latest;
      } in
      subst (λ (m : Number). Kept p (commit m)
      (record { answer = a; state = settled_state p order committed executed known awaiting marked }))
      (held_number inv here)
      (settled_under h taken kept
      (awaited ∙ ap (λ (m : Number). member p.awaiting m && leb committed executed) number)
      (joined ∙ ap (join p.known) number)
      (left ∙ ap (λ (b : Answer). awaiting_after p.awaiting n b.mark) answered
      ∙ ap (λ (m : Number). awaiting_after p.awaiting m (settled_answer due response).mark) number)
      (marks_by_state p inv (context_at p s) t.whole s commit_asks order committed end d marked
      (subst (λ (u : ℕ). Marked p.settled.words (context_at p s).words u marked) (sym here.slot) marks))
      marks.long answered)
