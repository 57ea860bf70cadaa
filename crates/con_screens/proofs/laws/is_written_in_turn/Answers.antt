use Rattle.con_screens.specs.WrittenInTurn.{written_nothing, written_in_turn}
use Rattle.con_screens.proofs.laws.is_written_in_turn.Goals as goal

pub returns-clause-nothing : goal.returns-clause-nothing
returns-clause-nothing c = written_nothing

pub returns-clause-both : goal.returns-clause-both
returns-clause-both c = written_in_turn
