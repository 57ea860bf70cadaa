-- More columns.
use Rattle.std.proofs.Common.{refl, arith, ◌∙◌, ◌≡◌}
use Rattle.con_paint.proofs.ColumnLemmas.{columns_none}
use Rattle.con_paint.proofs.columns.columns.Goals as goal

pub loop-x-init : goal.loop-x-init
loop-x-init c = (columns_none _ _ _ _ _ _ _ (omega arith), refl, omega arith, omega arith, omega arith, omega arith)

pub loop-x-preserved : goal.loop-x-preserved
loop-x-preserved c = (
  c.advance-reached.ensures.more c.args.from c.args.before c.args.out.now.items c.loop-x.invariant.0,
  c.advance-reached.ensures.capacity ∙ c.loop-x.invariant.1,
  omega arith,
  omega arith,
  omega arith,
  omega arith,
)

pub returns-clause-columns : goal.returns-clause-columns
returns-clause-columns c = let e : c.loop-x.reached.columns ≡ c.args.upto = omega arith in rw e at c.loop-x.invariant.0
