-- A place, a plain pen, and then the cells.
use Rattle.con_paint.proofs.ColumnLemmas.{run_erased}
use Rattle.con_paint.proofs.columns.run.Goals as goal

pub returns-clause-step : goal.returns-clause-step
returns-clause-step c = run_erased c.args.width c.args.y c.args.x c.args.count c.args.before c.plain_attr-attr.result _ _ _ _ c.plain_attr-attr.ensures c.requires.small.3 c.requires.small.1 c.go.ensures.leads (rw c.plain_attr-attr.ensures at c.choose.ensures.leads) c.erase_some.ensures.leads
