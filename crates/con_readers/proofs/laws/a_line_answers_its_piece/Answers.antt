use Rattle.con_readers.proofs.Answering.{line-piece}
use Rattle.con_readers.proofs.laws.a_line_answers_its_piece.Goals as goal

pub returns : goal.returns
returns c = line-piece
