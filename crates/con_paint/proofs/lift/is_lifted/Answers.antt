-- Checksums, and then cells.
use Rattle.con_paint.proofs.ChecksumLemmas.{not_agreeing}
use Rattle.con_paint.proofs.LiftLemmas.{here, not_here}
use Rattle.con_paint.proofs.lift.is_lifted.Goals as goal

pub returns-then-not-agree-clause-not : goal.returns-then-not-agree-clause-not
returns-then-not-agree-clause-not c = λ f. not_agreeing c.args.size.w c.args.size.h c.args.by c.args.cells.now c.args.shadow.now c.args.sums.now c.agree.result c.requires.lengths.1 c.requires.summed c.agree.ensures.differ c.if-not-agree.true

pub returns-clause-is : goal.returns-clause-is
returns-clause-is c = here c.args.size.w c.args.size.h c.args.by c.args.cells.now c.args.shadow.now c.is_moved.result c.requires.lengths.0 c.is_moved.ensures

pub returns-clause-not : goal.returns-clause-not
returns-clause-not c = not_here c.args.size.w c.args.size.h c.args.by c.args.cells.now c.args.shadow.now c.is_moved.result c.requires.lengths.0 c.is_moved.ensures
