-- `committing::commit` meets its contract by that of `settle`, and by the early refusals.
use mathlib.Core.Path.{refl, ap}
use Rattle.creek.specs.Replies.{reply_answer}
use Rattle.replica.specs.Uses.{settling_uses}
use Rattle.replica.specs.Memory.{memory}
use Rattle.settling.proofs.SettlingHeldLaws.{few_panels}
use Rattle.settling.proofs.SettlingRefusalLaws.{refuses, kept_early}
use Rattle.committing.proofs.commit.Goals as goal

pub early_refusal-requires : goal.early_refusal-requires
early_refusal-requires c = few_panels {p = memory (settling_uses c.args.p.now c.requires.panel)} c.requires.invariant

pub returns-in-Err : goal.returns-in-Err
returns-in-Err c = record {
  kept = λ r inv.
      kept_early {p = memory (settling_uses c.args.p.now r)} inv c.in-Err.ensures (refuses c.in-Err.refusal)
      (ap reply_answer c.told.ensures);
  spare = refl;
  others = refl;
}
