-- The call by which a request is heard: what is asked of it, and what the call answers.
use Rattle.std.specs.Prelude.{ℕ, Result}
use Rattle.numbers.specs.Numbers.{no_number}
use Rattle.request.specs.declared.Request.{Request}
use Rattle.request.specs.declared.refusal.Refusal.{Refusal}
use Rattle.request.specs.Refusal.{outcome_number}
use Rattle.creek.specs.declared.Answer.{Answer}
use Rattle.creek.specs.Plan.{empty_plan, deliver_refusal}
use Rattle.creek.specs.Replies.{refused_with}

-- ---- what is asked of a request that is heard

-- its refusal where nothing is held: the tests that come before the one whether its number is
unfoldable pub judged : ℕ → ℕ → Request → ℕ
judged panels own x = deliver_refusal (empty_plan panels own) x

-- ---- deliver

-- the answer of a delivery with that outcome
abbrev pub heard_answer : Result Unit Refusal → Answer
heard_answer outcome = refused_with (outcome_number outcome) no_number
