use Rattle.con_laws.proofs.Answered.{texts}
use Rattle.con_laws.proofs.fates.a_text_is_of_the_records_of_its_fate.Goals as goal

pub returns : goal.returns
returns c = texts c.serving_loses_nothing.ensures c.units_answer_their_piece.ensures c.a_line_answers_its_piece.ensures
