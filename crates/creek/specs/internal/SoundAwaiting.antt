-- What holds of the numbers awaiting a reply, in every replica that fresh and the calls lead to.
use Rattle.std.specs.Prelude.{ℕ, ◌≡◌, Bool, not, ◌&&◌, length}
use Rattle.sets.specs.declared.Context.{Context}
use Rattle.request.specs.declared.Request.{Request}
use Rattle.numbers.specs.Numbers.{most_panels}
use Rattle.sets.specs.Sets.{member}
use Rattle.lists.specs.Lists.{count}
use Rattle.creek.specs.Plan.{is_of}
use Rattle.creek.specs.Calls.{Replica}

-- x is an own strong request and does not await a reply
abbrev pub strong_unawaited : ℕ → Context → Request → Bool
strong_unawaited own awaiting x = is_of own x && x.asked.strong && not (member awaiting x.number)

-- what holds of the numbers awaiting a reply, in every replica that fresh and the calls lead to
pub record SoundAwaiting (r : Replica) : Type 0 where
  pub words : length r.awaiting.words ≡ most_panels
  -- no tentative own strong request has ceased to await its reply
  pub strong_await : count (strong_unawaited r.book.plan.own r.awaiting) r.book.plan.tentative ≡ 0
