use Rattle.std.proofs.Common.{arith}
use Rattle.con_machine.proofs.Fronting.{front_more, front_ends, front_past, front_none}
use Rattle.con_machine.proofs.reads.fronts.line_front.Goals as goal

pub returns-then-ends_line-clause-is : goal.returns-then-ends_line-clause-is
returns-then-ends_line-clause-is c =
    let front = front_ends c.args.n c.loop-k.k c.args.units.now 0 c.ends_line.result c.loop-k-test.true c.if-k-units.true c.ends_line.ensures c.if-ends_line.true in
    omega (arith, front, c.min.ensures, c.loop-k.invariant.0)

pub loop-k-preserved : goal.loop-k-preserved
loop-k-preserved c =
    let front = front_more c.args.n c.loop-k.k c.args.units.now 0 c.ends_line.result c.loop-k-test.true c.if-k-units.true c.ends_line.ensures c.if-ends_line.false in
    (omega (arith, front, c.loop-k.invariant.0), omega (arith, c.if-k-units.true), omega (arith, c.loop-k-test.true))

pub returns-else-k-units-clause-is : goal.returns-else-k-units-clause-is
returns-else-k-units-clause-is c =
    let past = front_past c.args.n c.loop-k.k c.args.units.now c.if-k-units.false in
    omega (arith, past, c.loop-k.invariant.0)

pub returns-after-loop-k-clause-is : goal.returns-after-loop-k-clause-is
returns-after-loop-k-clause-is c =
    let past = front_none c.args.n c.loop-k.k c.args.units.now (omega arith) in
    omega (arith, past, c.loop-k.invariant.0)
