use Rattle.std.proofs.Common.{rules}
use Rattle.con_line.proofs.line.Line.press.Goals as goal

pub returns-in-Back-clause-line : goal.returns-in-Back-clause-line
returns-in-Back-clause-line c = search rules

pub returns-in-Unit-clause-edit : goal.returns-in-Unit-clause-edit
returns-in-Unit-clause-edit c = search rules

pub returns-in-Match-clause-line : goal.returns-in-Match-clause-line
returns-in-Match-clause-line c = search rules
