-- One more row.
use Rattle.std.proofs.Common.{refl}
use Rattle.con_paint.proofs.FrameLemmas.{emptied_none, emptied_more}
use Rattle.con_paint.proofs.rows.emptied_from.Goals as goal

pub loop-k-init : goal.loop-k-init
loop-k-init c = emptied_none c.args.known c.args.size.w c.args.size.h c.args.cells.now c.args.shadow.now c.requires.lengths.0

pub loop-k-preserved : goal.loop-k-preserved
loop-k-preserved c = emptied_more c.args.known c.args.size.w c.args.size.h c.loop-k.k _ c.args.cells.now c.args.shadow.now _ _ refl c.loop-k-test.true c.requires.lengths.0 refl refl (c.is_emptied.ensures.blank c.if-not-is_emptied.false) (c.is_emptied.ensures.differs c.if-not-is_emptied.false) c.loop-k.invariant.0 c.loop-k.invariant.1
