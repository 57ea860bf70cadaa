use Rattle.con_readers.proofs.Answering.{units-piece}
use Rattle.con_readers.proofs.laws.units_answer_their_piece.Goals as goal

pub returns : goal.returns
returns c = units-piece
