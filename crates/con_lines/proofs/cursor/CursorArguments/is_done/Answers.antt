use Rattle.std.proofs.Common.{◌∙◌}
use Rattle.con_lines.proofs.Shapes.{no_told}
use Rattle.con_lines.proofs.cursor.CursorArguments.is_done.Goals as goal

pub returns : goal.returns
returns c = c.is_empty.ensures ∙ no_told c.args.self.now.items.left.now
