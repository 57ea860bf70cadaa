use Rattle.std.proofs.Common.{rules}
use Rattle.con_vtin.proofs.sequence.sequence_of.Goals as goal

pub returns-then-modifier-eq49-clause-units : goal.returns-then-modifier-eq49-clause-units
returns-then-modifier-eq49-clause-units c = search rules
