-- `settling::mark` meets its contract.
use Rattle.settling.proofs.SettlingMovesLaws.{marked_by}
use Rattle.settling.proofs.mark.Goals as goal

pub returns : goal.returns
returns c =
    marked_by c.args.n c.requires.number c.join_all.ensures c.join.ensures
