use Rattle.std.proofs.Common.{rules}
use Rattle.case_lines.proofs.wanted.is_line.Goals as goal

pub returns-in-Picture : goal.returns-in-Picture
returns-in-Picture c = search rules
