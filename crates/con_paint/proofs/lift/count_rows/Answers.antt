-- One more row.
use Rattle.std.proofs.Common.{refl, arith, ◌∙◌, ◌≡◌, false, get_or}
use Rattle.con_paint.proofs.ChecksumLemmas.{renewed_none, renewed_turn, renewed_all}
use Rattle.con_paint.proofs.FrameLemmas.{none_to_paint}
use Rattle.con_paint.proofs.LiftLemmas.{count_turn, one_more}
use Rattle.con_paint.proofs.lift.count_rows.Goals as goal

pub loop-y-init : goal.loop-y-init
loop-y-init c = (none_to_paint c.args.known c.args.size.w c.args.cells.now c.args.shadow.now, omega arith, renewed_none c.args.known c.args.size.w c.args.size.h c.args.cells.now c.args.shadow.now c.args.sums.now c.requires.summed.long)

pub loop-y-preserved : goal.loop-y-preserved
loop-y-preserved c = (
  c.plus_if-count.ensures
      ∙ count_turn c.args.known c.args.size.w c.loop-y.y c.loop-y.count c.args.cells.now c.args.shadow.now _ _ (get_or c.args.marks.now c.loop-y.y false) c.differs-differ.result c.loop-y.invariant.0 refl refl c.differs-differ.ensures (λ k. c.requires.marked k c.loop-y.y c.loop-y-test.true),
  one_more _ c.loop-y.count c.loop-y.y c.differs-differ.result c.plus_if-count.ensures c.loop-y.invariant.1,
  renewed_turn c.args.known (get_or c.args.marks.now c.loop-y.y false) c.differs-differ.result c.args.size.w c.args.size.h c.loop-y.y c.args.cells.now c.args.shadow.now _ _ c.args.sums.now c.loop-y.sums (record { was = 0; now = 0 }) c.renewed.result c.loop-y-test.true c.requires.summed c.loop-y.invariant.2
      c.renewed.ensures.was c.renewed.ensures.now refl refl c.differs-differ.ensures (λ k. c.requires.marked k c.loop-y.y c.loop-y-test.true),
)

pub returns-clause-summed : goal.returns-clause-summed
returns-clause-summed c = let e : c.loop-y.y ≡ c.args.size.h = omega arith in renewed_all c.args.known c.args.size.w c.args.size.h c.args.cells.now c.args.shadow.now c.args.sums.now c.loop-y.sums (rw e at c.loop-y.invariant.2)
