use Rattle.con_lines.proofs.Shapes.{units_short, units_long}
use Rattle.con_lines.proofs.events.unit_pair.Goals as goal

pub returns-in_default : goal.returns-in_default
returns-in_default c = units_short c.args.items.now c.in_default.len_below

pub returns-in_default-2 : goal.returns-in_default-2
returns-in_default-2 c = units_long c.args.items.now c.in_default.len_at_least
