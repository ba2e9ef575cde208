-- The run of a list of entries as functions on a panel and proofs speak of it, and the calls that entries stand for.
use Rattle.std.specs.Prelude.{ℕ, ◌≡◌, cond, if◌then◌else◌, Option, Some, None, List, [], ◌∷◌, ◌++◌, eqb}
use Rattle.std.proofs.lemmas.List.Edits.{sets}
use Rattle.text.specs.Written.{Written}
use Rattle.numbers.specs.Numbers.{no_number}
use Rattle.request.specs.Refusal as refused
use Rattle.creek.specs.declared.Answer.{Answer}
use Rattle.creek.specs.Book.{Call, invoke, deliver, commit, undo, execute}
use Rattle.creek.specs.Calls.{Replica}
use Rattle.creek.specs.History.{run, due_calls}
use Rattle.creek.specs.Showing.{owed_shown}
use Rattle.creek.specs.Replies.{refused_with, reply_answer}
use Rattle.replica.specs.State.{State, Called}
use Rattle.replica.specs.declared.Panel.{Panel}
use Rattle.replica.specs.Changes.{entering_changes, making_changes, settling_changes, undoing_changes, stepping_changes}
use Rattle.replica.specs.internal.Model.{Inv, model}
use Rattle.intake.specs.declared.Receipt.{Receipt}
use Rattle.encoding.specs.declared.calls.Step.{Step}
use Rattle.encoding.specs.declared.calls.Step.TheVariants.{Undo, Execute, AllDue}
use Rattle.encoding.specs.Encoding.{undo_tag, execute_tag, all_due_tag, Entry, one, all_due, entries_of}
use Rattle.encoding.specs.Encoding.{after, answer_to, answer_bytes, answers_bytes}

-- the replica after those entries, each on what the last one left
unfoldable pub run_entries : Replica → List Entry → Replica
run_entries r [] = r
run_entries r (x ∷ xs) = run_entries (after r x) xs

-- the entry was carried out on p
pub record Done (p : State) (x : Entry) (r : Called) : Type 0 where
  pub answer : r.answer ≡ answer_to (model p) x
  pub state : model r.state ≡ after (model p) x
  pub invariant : Inv r.state

-- the entry was carried out on p, which is q then, and its answer was put at the front
pub record EntryPut (p : State) (x : Entry) (out : List ℕ) (q : State) (out' : List ℕ) (n : ℕ) : Type 0 where
  pub answer : Written out (answer_bytes (answer_to (model p) x)) out' n
  pub state : model q ≡ after (model p) x
  pub invariant : Inv q

-- what a call of an entry may change of a panel, the counters too where it is a step: p with that as q has it
abbrev pub called_changes : Call → Panel → Panel → Panel
called_changes (invoke i) p q = making_changes p q
called_changes (deliver x) p q = entering_changes p q
called_changes (commit n) p q = settling_changes p q
called_changes undo p q = record (undoing_changes p q) { counters = q.counters }
called_changes execute p q = record (stepping_changes p q) { counters = q.counters }

-- what carrying out the entry may change of a panel: p with that as q has it
abbrev pub entry_changes : Entry → Panel → Panel → Panel
entry_changes (one c) p q = called_changes c p q
entry_changes all_due p q = record (stepping_changes p q) { counters = q.counters }

-- the step of that tag, where it is one's
abbrev pub step_with : ℕ → Option Step
step_with tag =
    if eqb tag undo_tag then Some Undo else (if eqb tag execute_tag then Some Execute else (if eqb tag all_due_tag then Some AllDue else None))

-- what a step asks for
abbrev pub step_entry : Step → Entry
step_entry Undo = one undo
step_entry Execute = one execute
step_entry AllDue = all_due

-- the answer that a receipt leads to: a message that could not be read is heard as the request of zeros, whose number is bad
abbrev pub receipt_answer : Receipt → Answer
receipt_answer r = cond {A = Answer} (eqb r.taken 0) (refused_with refused.bad_number no_number) (reply_answer r.reply)

-- the calls of an entry
unfoldable pub calls_in : Replica → Entry → List Call
calls_in r (one c) = c ∷ []
calls_in r all_due = due_calls (owed_shown r) r.book

-- the calls of all entries
unfoldable pub calls_of : Replica → List Entry → List Call
calls_of r [] = []
calls_of r (x ∷ xs) = calls_in r x ++ calls_of (after r x) xs

-- the entries of s were run on p: q is the state after them, and out' is out with their answers at its front
pub record RanAll (p : State) (s out out' : List ℕ) (q : State) : Type 0 where
  -- the state is the run of the entries, which is `creek`'s run of the calls that they stand for
  pub state : model q ≡ run_entries (model p) (entries_of s)
  pub calls : model q ≡ run (model p) (calls_of (model p) (entries_of s))
  pub answers : out' ≡ sets out 0 (answers_bytes (model p) (entries_of s))
  pub invariant : Inv q
