use Rattle.con_vtin.proofs.PieceLemmas.{read_in_pieces}
use Rattle.con_vtin.proofs.laws.is_read_in_pieces.Goals as goal

pub returns : goal.returns
returns c = read_in_pieces
