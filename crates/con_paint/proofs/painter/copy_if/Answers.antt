-- A part of the cells becomes the row.
use Rattle.con_paint.proofs.FrameLemmas.{part_pasted}
use Rattle.con_paint.proofs.painter.copy_if.Goals as goal

pub returns-then-wanted : goal.returns-then-wanted
returns-then-wanted c = rw c.if-wanted.true (part_pasted c.args.shadow.now c.args.row.now c.copy_from_slice.new.self c.args.at c.requires c.copy_from_slice.ensures.after)
