-- One piece more.
use Rattle.std.proofs.Common.{arith}
use Rattle.con_term.proofs.CopyLemmas.{copied_more}
use Rattle.con_term.proofs.cells.copy_over.Goals as goal

pub loop-at-preserved : goal.loop-at-preserved
loop-at-preserved c = (omega (arith, c.min-end.ensures), copied_more c.loop-at.to c.args.from.now c.args.to.now c.copy_from_slice.new.self c.loop-at.at c.min-end.result c.requires (omega (arith, c.min-end.ensures, c.loop-at-test.true)) (omega (arith, c.min-end.ensures)) c.loop-at.invariant.1 c.copy_from_slice.ensures.after)
