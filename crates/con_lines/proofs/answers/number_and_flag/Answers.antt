use Rattle.std.proofs.Common.{sym}
use Rattle.con_lines.proofs.Shapes.{less, not_less, number_and_flag_short, number_and_flag_long}
use Rattle.con_lines.proofs.answers.number_and_flag.Goals.{in_default-via-then-items-lt2, in_default-via-else-items-lt2+else-items-lt3}
use Rattle.con_lines.proofs.answers.number_and_flag.Goals as goal

pub returns-in_default-clause-form : goal.returns-in_default-clause-form
returns-in_default-clause-form c = elim c.in_default.branch [
  | in_default-via-then-items-lt2 w ↦ λ _. sym (number_and_flag_short c.args.items.now (less _ _ w.if-items-lt2-1.true))
  | in_default-via-else-items-lt2+else-items-lt3 w ↦ λ _. sym (number_and_flag_long c.args.items.now (not_less _ _ w.if-items-lt3-1.false))
]
