-- What a list of calls leads to: its answers, how many were run, and a refusal.
use Rattle.std.specs.Prelude.{ℕ, ◌≡◌, true, cond, List, length}
use Rattle.std.proofs.lemmas.List.Edits.{sets}
use Rattle.request.specs.Refusal.{no_room}
use Rattle.creek.specs.Calls.{fresh_refusal}
use Rattle.encoding.specs.Encoding.{panels_of, own_of, fresh_of, tight, entries_run, answers_bytes}
use Rattle.driver.specs.declared.ListResult.{ListResult}

-- the calls of s were run where the lent bytes were out and are out'
pub record Answered (s out out' : List ℕ) (r : ListResult) : Type 0 where
  -- no room for all answers, or the refusal of fresh
  pub refusal : r.refusal ≡ cond (tight s out) no_room (fresh_refusal (panels_of s) (own_of s))
  -- all were run, or none without room
  pub ran : r.ran ≡ length (entries_run s out)
  -- the answers stand at the front, and every other byte is as it was
  pub answers : out' ≡ sets out 0 (answers_bytes (fresh_of s) (entries_run s out))
  -- without room no byte is changed
  pub same_bytes : tight s out ≡ true → out' ≡ out
