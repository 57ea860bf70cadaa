use Rattle.con_mirror.specs.Parts.{padded}
use Rattle.con_mirror.proofs.RowLemmas.{stays}
use Rattle.con_mirror.proofs.part.renew_if.Goals as goal

pub returns-then-not-wanted-clause-cells : goal.returns-then-not-wanted-clause-cells
returns-then-not-wanted-clause-cells c = stays c.args.cells.now (padded c.args.n c.args.row.now) c.args.at c.args.n (c.requires.stands c.if-not-wanted.true)
