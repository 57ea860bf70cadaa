use Rattle.std.proofs.Common.{sym, arith}
use Rattle.con_vtin.proofs.StepLemmas.{second_goes_on, second_is_full, second_ends, second_breaks}
use Rattle.con_vtin.proofs.unfinished.from_second.Goals as goal

pub returns-then-body-lt-ROOM : goal.returns-then-body-lt-ROOM
returns-then-body-lt-ROOM c = second_goes_on c.args.body.now c.args.byte c.requires (sym c.if-is_intermediate.ensures) (omega arith)

pub returns-else-body-lt-ROOM : goal.returns-else-body-lt-ROOM
returns-else-body-lt-ROOM c = second_is_full c.args.body.now c.args.byte c.requires (sym c.if-is_intermediate.ensures) (omega arith)

pub returns-then-is_last : goal.returns-then-is_last
returns-then-is_last c = second_ends c.control_sequence_key.result c.args.body.now c.args.byte c.requires (sym c.if-is_intermediate.ensures) (sym c.if-is_last.ensures) c.control_sequence_key.ensures

pub returns-else-is_last : goal.returns-else-is_last
returns-else-is_last c = second_breaks c.args.body.now c.args.byte c.requires (sym c.if-is_intermediate.ensures) (sym c.if-is_last.ensures)
