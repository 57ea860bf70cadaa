use Rattle.con_laws.proofs.Caused.{aborted_by, closed_by}
use Rattle.con_laws.proofs.fates.a_read_fails_by_its_cause.Goals as goal

pub returns-clause-aborted : goal.returns-clause-aborted
returns-clause-aborted c = aborted_by c.units_answer_their_piece.ensures

pub returns-clause-closed : goal.returns-clause-closed
returns-clause-closed c = closed_by c.units_answer_their_piece.ensures
