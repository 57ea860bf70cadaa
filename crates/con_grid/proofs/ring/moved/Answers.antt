use Rattle.std.proofs.Common.{sym, arith}
use Rattle.con_grid.proofs.RingLemmas.{moved_low, moved_high}
use Rattle.con_grid.proofs.ring.moved.Goals as goal

pub returns-then-by-seam-clause-same : goal.returns-then-by-seam-clause-same
returns-then-by-seam-clause-same c = λ block long. moved_low block c.args.top c.args.by (omega (arith, long, c.if-by-seam.true, c.requires.top))

pub returns-else-by-seam-clause-same : goal.returns-else-by-seam-clause-same
returns-else-by-seam-clause-same c = λ block long. moved_high block c.args.top c.args.by c.args.count (sym long) c.requires.top c.requires.few (omega (arith, c.if-by-seam.false))
