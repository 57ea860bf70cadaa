-- A place, and then the cell.
use Rattle.std.proofs.Common.{arith}
use Rattle.con_paint.proofs.ColumnLemmas.{column_printed}
use Rattle.con_paint.proofs.columns.column.Goals as goal

pub returns-clause-step : goal.returns-clause-step
returns-clause-step c = column_printed c.args.kept c.args.width c.args.y c.args.x c.args.one c.args.before c.spot_behind-spot.result c.args.out.now.items c.go.new.out.items c.cell.new.out.items c.if-kept.false c.unit-unit.result c.attr-attr.result c.unit-unit.ensures.value c.attr-attr.ensures
    (record { unit = c.unit-unit.ensures.kept; attr = c.cell.ensures.kept.0; fits = (omega arith, c.cell.ensures.kept.1) }) c.spot_behind-spot.ensures c.go.ensures.leads c.cell.ensures.leads
