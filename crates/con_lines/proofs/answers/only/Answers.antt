use Rattle.con_lines.proofs.Shapes.{one_long}
use Rattle.con_lines.proofs.answers.only.Goals as goal

pub returns-in-len2-up : goal.returns-in-len2-up
returns-in-len2-up c = one_long c.args.items.now c.in-len2-up.len_at_least
