use Rattle.std.proofs.Common.{◌+◌, length, ◌-◌, ◌*◌}
use Rattle.con_run.proofs.abreast.+row.Given as goal

abbrev pub decreases-halves-one : goal.decreases-halves-one
decreases-halves-one g l = 4 * length l.front.now + 1

abbrev pub decreases-halves-two : goal.decreases-halves-two
decreases-halves-two g l = 4 * length l.back.now + 1

abbrev pub decreases-from : goal.decreases-from
decreases-from g l = 4 * length l.row.now

abbrev pub decreases-halves : goal.decreases-halves
decreases-halves g l = 4 * (length l.front.now + length l.back.now) - 1
