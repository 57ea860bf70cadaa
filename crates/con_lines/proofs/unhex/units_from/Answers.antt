use Rattle.std.proofs.Common.{sym, ◌∙◌}
use Rattle.con_lines.specs.Told.{unhex_units}
use Rattle.con_lines.proofs.Fronts.{unit_read, no_unit, units_read, units_cut}
use Rattle.con_lines.proofs.unhex.units_from.Goals as goal

pub loop-rest-preserved : goal.loop-rest-preserved
loop-rest-preserved c = rw c.in-Ok.ensures.items
    (unit_read c.loop-rest.units.items c.loop-rest.rest.now c.in-Some.unit (unhex_units c.args.text.now) c.in-len4-up.len_at_least c.in-Some.ensures
    c.loop-rest.invariant)

pub returns-in_default-unit_of-clause-form : goal.returns-in_default-unit_of-clause-form
returns-in_default-unit_of-clause-form c =
    λ _. no_unit c.loop-rest.units.items c.loop-rest.rest.now (unhex_units c.args.text.now) c.in-len4-up.len_at_least c.in_default-unit_of.ensures
    c.loop-rest.invariant

pub returns-then-is_empty-clause-ok : goal.returns-then-is_empty-clause-ok
returns-then-is_empty-clause-ok c =
    units_read c.loop-rest.units.items c.loop-rest.rest.now (unhex_units c.args.text.now) (sym c.is_empty.ensures ∙ c.if-is_empty.true)
    c.loop-rest.invariant

pub returns-else-is_empty-clause-form : goal.returns-else-is_empty-clause-form
returns-else-is_empty-clause-form c =
    λ _. units_cut c.loop-rest.units.items c.loop-rest.rest.now (unhex_units c.args.text.now) c.in_default.len_below
    (sym c.is_empty.ensures ∙ c.if-is_empty.false) c.loop-rest.invariant
