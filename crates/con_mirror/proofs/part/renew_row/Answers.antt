use Rattle.std.proofs.Common.{refl}
use Rattle.con_mirror.specs.Parts.{padded}
use Rattle.con_mirror.proofs.RowLemmas.{stands_there, stays}
use Rattle.con_mirror.proofs.part.renew_row.Goals as goal

pub returns-then-stands-clause-same : goal.returns-then-stands-clause-same
returns-then-stands-clause-same c = λ e. stands_there c.args.cells.now c.args.row.now _ c.args.at c.args.n c.requires refl (c.stands.ensures c.if-stands.true)

pub returns-then-stands-clause-cells : goal.returns-then-stands-clause-cells
returns-then-stands-clause-cells c = stays c.args.cells.now (padded c.args.n c.args.row.now) c.args.at c.args.n (returns-then-stands-clause-same c refl)
