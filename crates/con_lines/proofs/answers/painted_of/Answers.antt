use Rattle.con_lines.proofs.Shapes.{painted_short, painted_long}
use Rattle.con_lines.proofs.answers.painted_of.Goals as goal

pub returns-in_default : goal.returns-in_default
returns-in_default c = painted_short c.args.items.now c.in_default.len_below

pub returns-in_default-2 : goal.returns-in_default-2
returns-in_default-2 c = painted_long c.args.items.now c.in_default.len_at_least
