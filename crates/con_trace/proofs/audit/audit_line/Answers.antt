use Rattle.std.proofs.Common.{rules}
use Rattle.con_lines.proofs.Puts.{arrays}
use Rattle.json.specs.Print.{escape_byte}
use Rattle.con_trace.proofs.audit.audit_line.Goals as goal

pub returns-in-Ok-word : goal.returns-in-Ok-word
unfolding escape_byte
returns-in-Ok-word c = search (rules, arrays)
