use Rattle.std.proofs.Common.{rules}
use Rattle.con_trace.proofs.lines.is_line_of.Goals as goal

pub returns : goal.returns
returns c = search rules
