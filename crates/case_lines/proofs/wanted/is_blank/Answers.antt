use Rattle.std.proofs.Common.{rules}
use Rattle.case_lines.proofs.wanted.is_blank.Goals as goal

pub returns-then-is_blank_up_to : goal.returns-then-is_blank_up_to
returns-then-is_blank_up_to c = search rules

pub returns-else-is_blank_up_to : goal.returns-else-is_blank_up_to
returns-else-is_blank_up_to c = search rules
