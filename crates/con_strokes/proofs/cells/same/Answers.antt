-- One more cell.
use Rattle.con_strokes.proofs.SameLemmas.{same_more, differ_at}
use Rattle.con_strokes.proofs.cells.same.Goals as goal

pub loop-i-preserved : goal.loop-i-preserved
loop-i-preserved c = same_more c.args.a.now c.args.b.now c.loop-i.i _ _ c.is_same.result c.loop-i-test.true c.requires c.index-a-i.is c.index-b-i.is c.loop-i.invariant c.is_same.ensures c.if-not-is_same.false

pub returns-then-not-is_same : goal.returns-then-not-is_same
returns-then-not-is_same c = differ_at c.args.a.now c.args.b.now c.loop-i.i _ _ c.is_same.result c.loop-i-test.true c.index-a-i.is c.index-b-i.is c.is_same.ensures c.if-not-is_same.true
