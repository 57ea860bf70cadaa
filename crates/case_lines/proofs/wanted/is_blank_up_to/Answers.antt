use Rattle.std.proofs.Common.{rules}
use Rattle.case_lines.proofs.wanted.is_blank_up_to.Goals as goal

pub returns-in-Some : goal.returns-in-Some
returns-in-Some c = search rules
