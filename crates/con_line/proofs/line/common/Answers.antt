use Rattle.std.proofs.Common.{arith}
use Rattle.con_line.proofs.Differences.{first_difference-ended}
use Rattle.con_line.proofs.line.common.Goals as goal

pub returns-else-i-new-clause-is : goal.returns-else-i-new-clause-is
returns-else-i-new-clause-is c = omega (arith, first_difference-ended c.args.old.now c.args.new.now c.loop-i.i)
