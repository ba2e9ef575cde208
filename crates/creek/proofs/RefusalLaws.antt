-- Refusal 12 names the lowest number of the request's context that is not known.
use native.Mathlib.Omega.{arith}
use mathlib.Core.Path.{◌≡◌, refl, sym, ap, ◌∙◌}
use mathlib.Core.Bool.{Bool, true, false, not}
use mathlib.Core.Option.{some}
use Rattle.numbers.specs.declared.Number.{Number}
use Rattle.request.specs.declared.Request.{Request}
use Rattle.numbers.specs.Numbers.{bad_number}
use Rattle.sets.specs.Sets.{Words, subset}
use Rattle.request.specs.Refusal as refused
use Rattle.sets.proofs.LowestLaws.{Missing, lacking_is_missing}
use Rattle.creek.specs.Plan.{Plan, held, met, is_committed, found_refusal, commit_refusal}
use Rattle.creek.specs.Book.{commit, refusal}
use Rattle.creek.specs.Replies.{named_by_refusal, answer_of}
use Rattle.creek.specs.Calls.{Replica, answer}

-- of the request that a settlement refused with 12 is about, a context number is not known
found_lacks : (a : Plan) (n : Number) (x : Request) → found_refusal a n (some x) ≡ refused.waits → subset x.context a.known ≡ false
found_lacks a n x h = go x.asked.strong (is_committed a n) (subset x.context a.known) h
  where
    go : (strong committed whole : Bool)
        → met (not strong) refused.weak (met committed refused.settled_already (met (not whole) refused.waits refused.accepted))
        ≡ refused.waits
        → whole ≡ false
    go false c w h = absurd (omega arith)
    go true true w h = absurd (omega arith)
    go true false true h = absurd (omega arith)
    go true false false h = refl

module _ (r : Replica) (n : Number) (x : Request) (is_held_lem : held r.book.plan n ≡ some x)
    (refused-so : refusal r.book (commit n) ≡ refused.waits) where
  lacks : subset x.context r.book.plan.known ≡ false
  unfolding refusal commit_refusal
  lacks = go (bad_number r.book.plan.panels n) refused-so
    where
      go : (b : Bool) → met b refused.bad_number (found_refusal r.book.plan n (held r.book.plan n)) ≡ refused.waits
          → subset x.context r.book.plan.known ≡ false
      go true h = absurd (omega arith)
      go false h = found_lacks r.book.plan n x (ap (found_refusal r.book.plan n) (sym is_held_lem) ∙ h)

  -- the number that its answer names is in the context, not known, and the lowest such: lowest panel and then lowest event
  pub missing-named : Words x.context → Missing x.context r.book.plan.known (answer r (commit n)).number
  unfolding answer_of named_by_refusal
  missing-named words =
      rw (refused-so, is_held_lem) (lacking_is_missing x.context r.book.plan.known words lacks)
