-- A list of calls: the replica that it leads to, what each call answers and is refused by, the counts of the calls accepted in it, and the
-- steps that are due.
use Rattle.std.specs.Prelude.{ℕ, zero, suc, ◌+◌, Bool, ◌&&◌, cond, List, [], ◌∷◌, map}
use Rattle.lists.specs.Lists.{one, is_nil}
use Rattle.creek.specs.declared.Answer.{Answer}
use Rattle.creek.specs.Book.{Call, undo, execute, Book, refusal, is_accepted, noted}
use Rattle.creek.specs.Calls.{Replica, step, answer}
use Rattle.creek.specs.Showing.{owed_shown}

-- the replica after those calls, each on what the last one left
unfoldable pub run : Replica → List Call → Replica
run r [] = r
run r (c ∷ cs) = run (step r c) cs

-- what each of them answers
unfoldable pub answers_to : Replica → List Call → List Answer
answers_to r [] = []
answers_to r (c ∷ cs) = answer r c ∷ answers_to (step r c) cs

-- the refusal number of each answer
abbrev pub refusals_in : List Answer → List ℕ
refusals_in answers = map (λ (a : Answer). a.refusal) answers

-- the refusal number of each call, 0 for an accepted one, by the book, fed the calls alone
unfoldable pub refusals : Book → List Call → List ℕ
refusals b [] = []
refusals b (c ∷ cs) = refusal b c ∷ refusals (noted b c) cs

-- how many calls of a kind the book, fed the calls alone, accepts among those calls
unfoldable pub accepted_in : Book → List Call → (Call → Bool) → ℕ
accepted_in b [] kind = 0
accepted_in b (c ∷ cs) kind = one (is_accepted b c && kind c) + accepted_in (noted b c) cs kind

-- ---- the steps that are due

-- the step that is due while something is owed: undo if the rollback list is not empty, else carry out
abbrev pub due_call : Book → Call
due_call b = cond (is_nil b.execution.rollback) execute undo

-- the replica after so many due steps
unfoldable pub after_due_steps : ℕ → Replica → Replica
after_due_steps zero r = r
after_due_steps (suc k) r = after_due_steps k (step r (due_call r.book))

-- the replica after as many due steps as it owes, which is idle
abbrev pub idled : Replica → Replica
idled r = after_due_steps (owed_shown r) r

-- so many calls, each the step that is due then
unfoldable pub due_calls : ℕ → Book → List Call
due_calls zero b = []
due_calls (suc k) b = due_call b ∷ due_calls k (noted b (due_call b))
