-- No worthless panel keeps its contracts: by demand 3 of the panel, and by computation what `creek` says of three short histories and of
-- the steps due after the first.
use Prim.Native.Nat.{ℕ, ◌<◌}
use native.Mathlib.Omega.{arith}
use mathlib.Core.Path.{◌≡◌, refl, ap, ◌∙◌}
use mathlib.Core.List.{List, [], ◌∷◌, ◌++◌, map}
use lib.ListN.{length, get_or, get_or-append}
use Rattle.numbers.specs.Numbers.{same_number, bad_number}
use Rattle.request.specs.Operations.{bad_operation}
use Rattle.request.specs.Asked.{bad_asked}
use Rattle.sets.specs.Sets.{all_zero, is_empty, names_from, bit, member, join, leave}
use Rattle.request.specs.Order.{before}
use Rattle.request.specs.Request.{bad_context}
use Rattle.request.specs.Refusal as refused
use Rattle.effects.specs.Effect.{off_board, exec, response}
use Rattle.effects.specs.Replay.{replay_on, replay}
use Rattle.creek.specs.declared.Answer.{Answer}
use Rattle.creek.specs.Plan.{last_event, last_clock, entered, at_least, made, invoke_refusal, deliver_refusal}
use Rattle.creek.specs.Execution.{operations, registers, adjusted, executed_next, execute_refusal}
use Rattle.creek.specs.Book.{Call, execute, refusal, accepted, noted}
use Rattle.creek.specs.Replies.{execution_mark, execution_reply, accepted_answer, answer_of, accepted_awaiting}
use Rattle.creek.specs.Calls.{Replica, bad_shop, fresh, accept, step}
use Rattle.creek.specs.History.{run, due_calls, answers_to, refusals_in}
use Rattle.creek.specs.Showing.{register_shown, requests_shown, undos_shown, executions_shown, owed_shown}
use Rattle.replica.specs.State.{State}
use Rattle.creek.specs.declared.Reply.{Reply}
use Rattle.replica.specs.Promises.{Fresh}
use Rattle.replica.specs.internal.Model.{model, Inv}
use Rattle.due.specs.Due.{no_reply, RunDue}
use Rattle.fields.specs.Integers.{integer_at}
use Rattle.fields.specs.Widths.{decode}
use Rattle.wire.specs.Layout.{kind_with, layout, widths_with, least_size, most_size}
use Rattle.wire.specs.Message.{message_from}
use Rattle.wire.specs.Reader.{length_at, kind_at, run_at, fields_at, spare_set, refusal_as, read_as, read_at}
use Rattle.intake.specs.Intake.{call_of}
use Rattle.history.specs.History.{Leads, stay, call, all_due_is, in_one, replies_in, AllDueDone, PanelDemand3}
use Rattle.history.specs.Received.{calls_in}
use Rattle.history.specs.Worthless.{PanelCall, single, run_due, receive, singly, Panel, next, after, stand_for, answers_from, KeepsCall}
use Rattle.history.specs.Worthless.{KeepsCalls, reached, Keeps, RefusesEach, RepliesAlways, LeavesAlone, ExecutesAll}
use Rattle.history.specs.Worthless.{InventsCounters, LeavesDue, RepliesDueAlways, InventsDueCounts, ReceivesNothing}
use Rattle.history.specs.Worthless.{heard_message, NotWorthless}
use Rattle.history.specs.Worthless.{first_value, second_value, setting, two_sets, two_sets_due}
use Rattle.history.proofs.History.{panel_inv, panel_replica, panel_demand_3}
use Rattle.history.proofs.Received.{received_in_one}

-- ---- by computation

-- what those calls answer in a shop of one panel
abbrev answering : List Call → List Answer
answering calls = answers_to (fresh 1 0) calls

-- the replica after them
abbrev running : List Call → Replica
running calls = run (fresh 1 0) calls

-- all of them are accepted
abbrev AllAccepted : List Call → Type 0
AllAccepted calls = refusals_in (answering calls) ≡ map (λ c. refused.accepted) calls

-- the replies that fall due when all due steps are done on it
abbrev replying : Replica → List Reply
replying r = replies_in (answers_to r (due_calls (owed_shown r) r.book))

record Computed : Type 0 where
  sets_accepted : AllAccepted (two_sets [])
  first_accepted : AllAccepted (two_sets (execute ∷ []))
  both_accepted : AllAccepted (two_sets (execute ∷ execute ∷ []))
  -- a set responds the value before
  responses : map (λ a. a.response) (answering (two_sets (execute ∷ execute ∷ []))) ≡ 0 ∷ 0 ∷ 0 ∷ first_value ∷ []
  none_held : requests_shown (fresh 1 0) ≡ 0
  sets_held : requests_shown (running (two_sets [])) ≡ 2
  none_executed : executions_shown (running (two_sets [])) ≡ 0
  -- one carry-out leaves the first value, the whole to-do list the second
  one_executed : register_shown (running (two_sets (execute ∷ []))) 0 ≡ first_value
  all_executed : get_or (replay (operations (running (two_sets [])).book.execution.todo)) 0 0 ≡ second_value
  -- both are owed, and both replies fall due
  sets_owed : length (running (two_sets [])).book.execution.todo ≡ 2
  both_replied : length (replying (running (two_sets []))) ≡ 2
  first_response : (get_or (replying (running (two_sets []))) 0 no_reply).response ≡ 0
  second_response : (get_or (replying (running (two_sets []))) 1 no_reply).response ≡ first_value

computed : Computed
unfolding same_number bad_number bad_operation bad_asked bit member join leave before off_board exec response replay_on replay last_event
    last_clock entered at_least made invoke_refusal registers adjusted executed_next execute_refusal refusal accepted noted execution_mark
    execution_reply accepted_answer answer_of accepted_awaiting bad_shop fresh accept step run register_shown answers_to due_calls
computed = record {
  sets_accepted = refl;
  first_accepted = refl;
  both_accepted = refl;
  responses = refl;
  none_held = refl;
  sets_held = refl;
  none_executed = refl;
  one_executed = refl;
  all_executed = refl;
  sets_owed = refl;
  both_replied = refl;
  first_response = refl;
  second_response = refl;
}

-- document 01's second message is heard by panel 0 of 2
record MessageHeard : Type 0 where
  before : requests_shown (fresh 2 0) ≡ 0
  after : requests_shown (run (fresh 2 0) (calls_in (read_at heard_message 0) ++ [])) ≡ 1

message_heard : MessageHeard
unfolding same_number bad_number bad_operation bad_asked all_zero is_empty names_from bit member join before bad_context entered deliver_refusal
    adjusted refusal accepted bad_shop fresh accept step run integer_at kind_with layout widths_with least_size most_size decode message_from
    length_at kind_at run_at fields_at spare_set refusal_as read_as read_at call_of
message_heard = record { before = refl; after = refl }

-- two lists of four agree in their last two
last_two : {a b c d s t u v : ℕ} → a ∷ b ∷ c ∷ d ∷ [] ≡ s ∷ t ∷ u ∷ v ∷ [] → (c ≡ u) × (d ≡ v)
last_two e = (cc e, cc e)

-- ---- a panel that keeps its contracts

module _ (panel : Panel) where
  pub kept_leads : (p : State) (cs : List PanelCall) → KeepsCalls panel p cs
      → Leads p (stand_for panel p cs) (answers_from panel p cs) (after panel p cs)
  kept_leads p [] kept = stay
  kept_leads p (single c ∷ cs) kept = call (panel.call p c) kept.0 (kept_leads (panel.call p c).state cs kept.1)
  kept_leads p (run_due ∷ cs) kept = all_due_is (panel.run_due_is p) kept.0 (kept_leads (panel.run_due_is p).state cs kept.1)
  kept_leads p (receive s at ∷ cs) kept =
      let r = panel.receive p s at in
      in_one r.state (λ inv. (received_in_one p (read_at s at) r (kept.0 inv)).done) (kept_leads r.state cs kept.1)

  -- where all due steps at once are called last
  after_last : (p : State) (cs : List PanelCall) → after panel p (cs ++ run_due ∷ []) ≡ (panel.run_due_is (after panel p cs)).state
  after_last p [] = refl
  after_last p (c ∷ cs) = after_last (next panel p c) cs

  last-kept : (p : State) (cs : List PanelCall) → KeepsCalls panel p (cs ++ run_due ∷ []) → KeepsCall panel (after panel p cs) run_due
  last-kept p [] kept = kept.0
  last-kept p (c ∷ cs) kept = last-kept (next panel p c) cs kept.1

  before-kept : (p : State) (cs : List PanelCall) → KeepsCalls panel p (cs ++ run_due ∷ []) → KeepsCalls panel p cs
  before-kept p [] kept = tt
  before-kept p (c ∷ cs) kept = (kept.0, before-kept (next panel p c) cs kept.1)

  -- what demand 3 says of it
  module _ (panels own : ℕ) (calls : List PanelCall) (begun : Fresh panels own (panel.fresh panels own))
      (kept : KeepsCalls panel (panel.fresh panels own).state calls) where
    abbrev answers : List Answer
    answers = answers_from panel (panel.fresh panels own).state calls

    abbrev called : List Call
    called = stand_for panel (panel.fresh panels own).state calls

    leads : Leads (panel.fresh panels own).state called answers (reached panel panels own calls)
    leads = kept_leads (panel.fresh panels own).state calls kept

    inv : Inv (reached panel panels own calls)
    inv = panel_inv begun leads

    replica : model (reached panel panels own calls) ≡ run (fresh panels own) called
    replica = panel_replica begun leads

    demand : PanelDemand3 panels own called answers (reached panel panels own calls)
    demand = panel_demand_3 begun leads

  -- and of all due steps at once after those calls
  module _ (panels own : ℕ) (calls : List PanelCall) (k : Keeps panel panels own (calls ++ run_due ∷ [])) where
    abbrev start : State
    start = reached panel panels own calls

    kept-before : KeepsCalls panel (panel.fresh panels own).state calls
    kept-before = before-kept (panel.fresh panels own).state calls k.kept

    ran : RunDue start (panel.run_due_is start)
    ran = last-kept (panel.fresh panels own).state calls k.kept (inv panels own calls k.fresh kept-before)

    all_done : AllDueDone start (panel.run_due_is start)
    all_done = (demand panels own calls k.fresh kept-before).all_due_done (panel.run_due_is start) ran

  -- ---- the five

  refuses_each : RefusesEach panel → Keeps panel 1 0 (singly (two_sets [])) → ⊥
  refuses_each never k =
      let accepted = ap refusals_in (demand 1 0 (singly (two_sets [])) k.fresh k.kept).answered ∙ computed.sets_accepted in
      never 1 0 [] (setting first_value) (cc accepted)

  replies_always : (response : ℕ) → RepliesAlways panel response → Keeps panel 1 0 (singly (two_sets (execute ∷ execute ∷ []))) → ⊥
  replies_always fixed always k =
      let answered = (demand 1 0 (singly (two_sets (execute ∷ execute ∷ []))) k.fresh k.kept).answered in
      let accepted = last_two (ap refusals_in answered ∙ computed.both_accepted) in
      let responses = last_two (ap (map (λ (a : Answer). a.response)) answered ∙ computed.responses) in
      omega (arith, responses, always 1 0 (two_sets []) accepted.0, always 1 0 (two_sets (execute ∷ [])) accepted.1)

  leaves_alone : LeavesAlone panel → Keeps panel 1 0 (singly (two_sets [])) → ⊥
  leaves_alone alone k =
      let same : reached panel 1 0 (singly (two_sets [])) ≡ reached panel 1 0 [] =
      alone 1 0 (setting first_value ∷ []) (setting second_value) ∙ alone 1 0 [] (setting first_value) in
      omega (
        arith,
        ap (λ (p : State). requests_shown (model p)) same,
        ap requests_shown k.fresh.state,
        ap requests_shown (replica 1 0 (singly (two_sets [])) k.fresh k.kept),
        computed.none_held,
        computed.sets_held,
      )

  executes_all : ExecutesAll panel → Keeps panel 1 0 (singly (two_sets (execute ∷ []))) → ⊥
  executes_all all k =
      let calls = singly (two_sets (execute ∷ [])) in
      let made = replica 1 0 (singly (two_sets [])) k.fresh (k.kept.0, (k.kept.1.0, tt)) in
      let accepted = ap refusals_in (demand 1 0 calls k.fresh k.kept).answered ∙ computed.first_accepted in
      omega (
        arith,
        all 1 0 (two_sets []) 0 (omega arith) (ap executions_shown made ∙ computed.none_executed) (cc accepted),
        (k.register 0 (inv 1 0 calls k.fresh k.kept)).value,
        ap (λ (r : Replica). register_shown r 0) (replica 1 0 calls k.fresh k.kept),
        ap (λ (r : Replica). get_or (replay (operations r.book.execution.todo)) 0 0) made,
        computed.one_executed,
        computed.all_executed,
      )

  invents_counters : (panels own : ℕ) (calls : List PanelCall) → InventsCounters panel panels own calls
      → Keeps panel panels own calls → ⊥
  invents_counters panels own calls invented k =
      let d = demand panels own calls k.fresh k.kept in
      let i = inv panels own calls k.fresh k.kept in
      invented (k.undos i ∙ d.undos_shown_is, k.executions i ∙ d.executions_shown_is)

  -- ---- the three of all due steps at once

  -- called where two sets were made
  module _ (k : Keeps panel 1 0 two_sets_due) where
    abbrev two_made : State
    two_made = reached panel 1 0 (singly (two_sets []))

    made_two : model two_made ≡ running (two_sets [])
    made_two = replica 1 0 (singly (two_sets [])) k.fresh (kept-before 1 0 (singly (two_sets [])) k)

    two-done : AllDueDone two_made (panel.run_due_is two_made)
    two-done = all_done 1 0 (singly (two_sets [])) k

    two-replied : length (replying (model two_made)) ≡ 2
    two-replied = ap (λ (r : Replica). length (replying r)) made_two ∙ computed.both_replied

    -- the response at a place is that of `creek`
    response_at : (place : ℕ) → place < 2
        → (get_or (panel.run_due_is two_made).replies place no_reply).response ≡ (get_or (replying (running (two_sets []))) place no_reply).response
    response_at place low =
        ap (λ (l : List Reply). (get_or l place no_reply).response) two-done.replies
        ∙ ap (λ (d : Reply). d.response) (get_or-append (replying (model two_made)) _ no_reply place (omega (arith, two-replied)))
        ∙ ap (λ (r : Replica). (get_or (replying r) place no_reply).response) made_two

  leaves_due : LeavesDue panel → Keeps panel 1 0 two_sets_due → ⊥
  leaves_due alone k =
      omega (
        arith,
        ap (λ (p : State). executions_shown (model p)) (alone 1 0 (two_sets [])),
        (two-done k).executions,
        (ran 1 0 (singly (two_sets [])) k).executions,
        ap (λ (r : Replica). length r.book.execution.todo) (made_two k),
        computed.sets_owed,
      )

  replies_due_always : (response : ℕ) → RepliesDueAlways panel response → Keeps panel 1 0 two_sets_due → ⊥
  replies_due_always fixed always k =
      let two = (two-done k).count ∙ two-replied k in
      omega (
        arith,
        always 1 0 (two_sets []) 0 (omega (arith, two)),
        always 1 0 (two_sets []) 1 (omega (arith, two)),
        response_at k 0 (omega arith),
        response_at k 1 (omega arith),
        computed.first_response,
        computed.second_response,
      )

  invents_due_counts : (panels own : ℕ) (calls : List PanelCall) → InventsDueCounts panel panels own calls
      → Keeps panel panels own calls → Keeps panel panels own (calls ++ run_due ∷ []) → ⊥
  invents_due_counts panels own calls invented k later =
      let i = inv panels own calls k.fresh k.kept in
      let j = inv panels own (calls ++ run_due ∷ []) later.fresh later.kept in
      let last = after_last (panel.fresh panels own).state calls in
      let done = all_done panels own calls later in
      invented (
        omega (arith, later.undos j, ap (λ (p : State). undos_shown (model p)) last, done.undos, k.undos i),
        omega (arith, later.executions j, ap (λ (p : State). executions_shown (model p)) last, done.executions, k.executions i),
      )

  -- ---- the one of messages received

  receives_nothing : ReceivesNothing panel → Keeps panel 2 0 (receive heard_message 0 ∷ []) → ⊥
  receives_nothing nothing k =
      omega (
        arith,
        ap (λ (p : State). requests_shown (model p)) (nothing 2 0 [] heard_message 0),
        ap requests_shown k.fresh.state,
        ap requests_shown (replica 2 0 (receive heard_message 0 ∷ []) k.fresh k.kept),
        message_heard.before,
        message_heard.after,
      )

-- ---- the theorem

pub no_worthless_panel : (panel : Panel) → NotWorthless panel
no_worthless_panel panel = record {
  refuses_each = refuses_each panel;
  replies_always = replies_always panel;
  leaves_alone = leaves_alone panel;
  executes_all = executes_all panel;
  invents_counters = invents_counters panel;
  leaves_due = leaves_due panel;
  replies_due_always = replies_due_always panel;
  invents_due_counts = invents_due_counts panel;
  receives_nothing = receives_nothing panel;
}
