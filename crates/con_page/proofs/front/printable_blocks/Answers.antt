use Rattle.std.proofs.Common.{arith}
use Rattle.con_page.proofs.ScanLemmas.{printable_next}
use Rattle.con_page.proofs.front.printable_blocks.Goals as goal

pub loop-at-preserved : goal.loop-at-preserved
loop-at-preserved c = printable_next c.args.units.now c.loop-at.at 16 _ (omega arith) c.loop-at-test.true c.loop-at.invariant.1 (c.are_printable.ensures c.if-not-are_printable.false)
