use Rattle.std.proofs.Common.{sym}
use Rattle.con_lines.proofs.Shapes.{less, not_less, cells_short, cells_long}
use Rattle.con_lines.proofs.answers.cells.Goals.{in_default-via-then-items-lt2, in_default-via-else-items-lt2+else-items-lt3}
use Rattle.con_lines.proofs.answers.cells.Goals as goal

pub returns-in_default-clause-form : goal.returns-in_default-clause-form
returns-in_default-clause-form c = elim c.in_default.branch [
  | in_default-via-then-items-lt2 w ↦ λ _. sym (cells_short c.args.items.now (less _ _ w.if-items-lt2-1.true))
  | in_default-via-else-items-lt2+else-items-lt3 w ↦ λ _. sym (cells_long c.args.items.now (not_less _ _ w.if-items-lt3-1.false))
]
