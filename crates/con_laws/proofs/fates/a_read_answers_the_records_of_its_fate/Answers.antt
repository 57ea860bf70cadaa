use Rattle.con_laws.proofs.Fated.{answered}
use Rattle.con_laws.proofs.fates.a_read_answers_the_records_of_its_fate.Goals as goal

pub returns : goal.returns
returns c = answered c.serving_loses_nothing.ensures c.units_answer_their_piece.ensures
