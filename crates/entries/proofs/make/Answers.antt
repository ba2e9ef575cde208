-- `make` meets its contract.
use mathlib.Core.Path.{ap, sym}
use Rattle.creek.specs.declared.Invocation.{Invocation}
use Rattle.creek.specs.Book.{invoke}
use Rattle.replica.proofs.ChangesLaws.{kept_here}
use Rattle.encoding.specs.Encoding.{one}
use Rattle.encoding.proofs.CallLaws.{put-kept, put_as}
use Rattle.entries.proofs.make.Goals as goal

pub invoke-made-requires : goal.invoke-made-requires
invoke-made-requires c = record { panel = c.args.p.now; invariant = c.requires.inv }

pub returns : goal.returns
returns c = (
  put_as (ap (λ (i : Invocation). one (invoke i)) (sym c.invocation_at-asked.ensures))
      (put-kept (kept_here (invoke _) c.invoke-made.ensures c.requires.inv) (rw c.made_answer.ensures at c.put_answer.ensures)),
  c.invoke-made.ensures.others,
)
