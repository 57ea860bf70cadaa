use Rattle.std.proofs.Common.{sym}
use Rattle.con_lines.proofs.Shapes.{less, not_less, read_with_short, read_with_long}
use Rattle.con_lines.proofs.events.read_with.Goals.{in_default-via-then-items-lt4, in_default-via-else-items-lt4+else-items-lt5}
use Rattle.con_lines.proofs.events.read_with.Goals as goal

pub returns-in_default-clause-form : goal.returns-in_default-clause-form
returns-in_default-clause-form c = elim c.in_default.branch [
  | in_default-via-then-items-lt4 w ↦ λ _. sym (read_with_short c.args.items.now (less _ _ w.if-items-lt4-1.true))
  | in_default-via-else-items-lt4+else-items-lt5 w ↦ λ _. sym (read_with_long c.args.items.now (not_less _ _ w.if-items-lt5-1.false))
]
