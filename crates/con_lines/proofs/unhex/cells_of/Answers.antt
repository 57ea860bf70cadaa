use Rattle.std.proofs.Common.{sym, ◌∙◌}
use Rattle.con_lines.specs.Told.{cells_from}
use Rattle.con_lines.proofs.Fronts.{cell_read, cells_read, cells_cut}
use Rattle.con_lines.proofs.unhex.cells_of.Goals as goal

pub loop-rest-preserved : goal.loop-rest-preserved
loop-rest-preserved c = rw c.in-Ok.ensures.items
    (cell_read c.loop-rest.cells.items c.loop-rest.rest.now c.cell_of.result (cells_from c.args.units.now) c.in-len2-up.len_at_least
    c.cell_of.ensures c.loop-rest.invariant)

pub returns-then-is_empty-clause-ok : goal.returns-then-is_empty-clause-ok
returns-then-is_empty-clause-ok c =
    cells_read c.loop-rest.cells.items c.loop-rest.rest.now (cells_from c.args.units.now) (sym c.is_empty.ensures ∙ c.if-is_empty.true)
    c.loop-rest.invariant

pub returns-else-is_empty-clause-form : goal.returns-else-is_empty-clause-form
returns-else-is_empty-clause-form c =
    λ _. cells_cut c.loop-rest.cells.items c.loop-rest.rest.now (cells_from c.args.units.now) c.in_default.len_below
    (sym c.is_empty.ensures ∙ c.if-is_empty.false) c.loop-rest.invariant
