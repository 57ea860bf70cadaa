use Rattle.std.proofs.Common.{arith}
use Rattle.con_page.proofs.ScanLemmas.{between_more, between_printable}
use Rattle.con_page.proofs.front.are_printable.Goals as goal

pub loop-unit-preserved : goal.loop-unit-preserved
loop-unit-preserved c = rw (c.lesser-least.ensures, c.greater-most.ensures) (between_more c.args.units.now c.loop-unit.unit-index c.loop-unit.least c.loop-unit.most c.loop-unit-test.true c.loop-unit.invariant)

pub returns-then-least-ge32 : goal.returns-then-least-ge32
returns-then-least-ge32 c = λ high. between_printable c.args.units.now c.loop-unit.unit-index c.loop-unit.least c.loop-unit.most (omega (arith, c.loop-unit-test.false)) c.if-least-ge32.true high c.loop-unit.invariant
