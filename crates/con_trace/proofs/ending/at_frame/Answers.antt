use Rattle.std.proofs.Common.{rules}
use Rattle.con_lines.proofs.Puts.{arrays}
use Rattle.json.specs.Print.{escape_byte}
use Rattle.con_trace.proofs.ending.at_frame.Goals as goal

pub returns : goal.returns
unfolding escape_byte
returns c = search (rules, arrays)
