use Rattle.std.proofs.Common.{ap, ◌∙◌, sym, Some}
use Rattle.con_rects.proofs.ReadLemmas.{read_at}
use Rattle.con_rects.proofs.reads.read_cell.Goals as goal

pub returns : goal.returns
returns c = rw c.plain.ensures (read_at c.args.grid.now c.args.at c.at.result c.at.ensures)
