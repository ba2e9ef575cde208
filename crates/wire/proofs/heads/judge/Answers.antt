-- `heads::judge` meets its contract, refusal by refusal.
use mathlib.Core.Path.{sym, ◌∙◌}
use native.Mathlib.Omega.{arith}
use Rattle.wire.specs.Layout.{most_size}
use Rattle.wire.proofs.ReaderLaws.{too_short, too_long, cut_short_lem, spare-set, laid_out}
use Rattle.wire.proofs.heads.judge.Goals as goal

-- ---- past each test: the length is not below the kind's least, not above its most, and the message is whole

pub returns-then-length-least : goal.returns-then-length-least
returns-then-length-least c = sym (too_short _ _ _ (omega arith))

pub returns-then-most_run-length : goal.returns-then-most_run-length
unfolding most_size
returns-then-most_run-length c = sym (too_long _ _ _ (omega arith) (omega arith))

pub returns-then-s-at : goal.returns-then-s-at
unfolding most_size
returns-then-s-at c = sym (cut_short_lem _ _ _ (omega arith) (omega arith) (omega arith))

pub returns-then-spare_set : goal.returns-then-spare_set
unfolding most_size
returns-then-spare_set c =
    sym (spare-set _ _ _ (omega arith) (omega arith) (omega arith) (sym c.spare_set.ensures ∙ c.if-spare_set.true))

pub returns : goal.returns
unfolding most_size
returns c =
    sym (laid_out _ _ _ (record {
      least = omega arith;
      most = omega arith;
      whole = omega arith;
      clear = sym c.spare_set.ensures ∙ c.if-spare_set.false;
    }))
