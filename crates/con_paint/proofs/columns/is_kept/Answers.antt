-- The same cell.
use Rattle.std.proofs.Common.{sym, ◌∙◌}
use Rattle.con_paint.proofs.ColumnLemmas.{kept_same}
use Rattle.con_paint.proofs.columns.is_kept.Goals as goal

pub returns-then-is_same-clause-same : goal.returns-then-is_same-clause-same
returns-then-is_same-clause-same c = λ _. kept_same c.args.row.now c.args.was.now c.args.x _ _ c.requires.inside.0 c.requires.lengths c.index-row-x.is c.index-was-x.is (sym c.is_same.ensures ∙ c.if-is_same.true)
