-- Who gets which replies: a weak or stable reply is a request's last one, and until its stable reply is due a strong own request gets a
-- tentative one at each carry-out. Both statements hold after every list of calls from fresh: `last-reply` and `tentative-reply` in
-- `proofs/Waiting`.
use Rattle.std.specs.Prelude.{◌≡◌, true, false, List, ◌∷◌}
use Rattle.request.specs.declared.Request.{Request}
use Rattle.request.specs.Refusal as refused
use Rattle.creek.specs.Plan.{is_of, is_committed}
use Rattle.creek.specs.Book.{Call, execute, refusal}
use Rattle.creek.specs.Replies.{no_mark, tentative_mark, ends_waiting}
use Rattle.creek.specs.Calls.{Replica, step, answer}
use Rattle.creek.specs.History.{run}
use Rattle.creek.specs.StableReply.{replied_to}

-- after a weak or stable reply to c, no later reply about the same request has a mark
pub record LastReply (r : Replica) (c : Call) : Type 0 where
  pub last : ends_waiting (answer r c).mark ≡ true → (further : List Call) (d : Call)
      → replied_to d (answer (run (step r c) further) d) ≡ replied_to c (answer r c)
      → (answer (run (step r c) further) d).mark ≡ no_mark

-- a carry-out of an own strong request that is not committed gets a tentative reply
pub record TentativeReply (r : Replica) (x : Request) (xs : List Request) : Type 0 where
  pub given : r.book.execution.todo ≡ x ∷ xs → refusal r.book execute ≡ refused.accepted
      → is_of r.book.plan.own x ≡ true → x.asked.strong ≡ true → is_committed r.book.plan x.number ≡ false
      → (answer r execute).mark ≡ tentative_mark
