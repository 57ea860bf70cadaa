use Rattle.con_mirror.proofs.RowLemmas.{same_more, same_end}
use Rattle.std.proofs.Common.{arith}
use Rattle.con_mirror.proofs.part.are_same.Goals as goal

pub loop-x-preserved : goal.loop-x-preserved
loop-x-preserved c = same_more c.args.a.now c.args.b.now c.loop-x.x c.index-a-x.result c.index-b-x.result c.loop-x-test.true c.requires c.index-a-x.is c.index-b-x.is (c.is_same.ensures c.if-not-is_same.false) c.loop-x.invariant

pub returns : goal.returns
returns c = λ e. same_end c.args.a.now c.args.b.now c.loop-x.x (omega arith) c.requires c.loop-x.invariant
