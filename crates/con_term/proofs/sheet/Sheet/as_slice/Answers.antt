use Rattle.std.proofs.Common.{rules}
use Rattle.con_term.proofs.sheet.Sheet.as_slice.Goals as goal

pub returns : goal.returns
returns c = search rules
