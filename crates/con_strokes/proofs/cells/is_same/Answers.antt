-- Equal cells are the same.
use Rattle.con_strokes.proofs.SameLemmas.{same_as}
use Rattle.con_strokes.proofs.cells.is_same.Goals as goal

pub returns : goal.returns
returns c = same_as c.args.a.now c.args.b.now c.is_equal.result c.is_equal.ensures
