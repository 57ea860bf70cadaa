use Rattle.std.proofs.Common.{rules}
use Rattle.con_machine.proofs.Written.{few_told, written_counts}
use Rattle.con_screens.specs.Buffers.{buffer_at}
use Rattle.con_machine.proofs.calls.writing.write.Goals as goal

pub returns-clause-few : goal.returns-clause-few
returns-clause-few c = rw (c.write.ensures.answers, c.requires.nothing) (few_told c.is_told_within.ensures (buffer_at c.args.screens.now c.args.id.0) c.args.units.now)

pub returns-clause-counted : goal.returns-clause-counted
returns-clause-counted c = λ hs. written_counts c.args.screens.now c.write.new.self c.args.id.0 c.args.units.now hs (search rules)
