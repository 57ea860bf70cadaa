use Rattle.std.proofs.Common.{sym, arith}
use Rattle.con_vtin.proofs.StepLemmas.{first_goes_on, first_is_full, second_goes_first, second_is_full_first, first_ends, first_breaks}
use Rattle.con_vtin.proofs.unfinished.from_first.Goals as goal

pub returns-then-body-lt-ROOM : goal.returns-then-body-lt-ROOM
returns-then-body-lt-ROOM c = first_goes_on c.args.body.now c.args.byte c.requires (sym c.if-is_parameter.ensures) (omega arith)

pub returns-else-body-lt-ROOM : goal.returns-else-body-lt-ROOM
returns-else-body-lt-ROOM c = first_is_full c.args.body.now c.args.byte c.requires (sym c.if-is_parameter.ensures) (omega arith)

pub returns-then-body-lt-ROOM-2 : goal.returns-then-body-lt-ROOM-2
returns-then-body-lt-ROOM-2 c = second_goes_first c.args.body.now c.args.byte c.requires (sym c.if-is_parameter.ensures) (sym c.if-is_intermediate.ensures) (omega arith)

pub returns-else-body-lt-ROOM-2 : goal.returns-else-body-lt-ROOM-2
returns-else-body-lt-ROOM-2 c = second_is_full_first c.args.body.now c.args.byte c.requires (sym c.if-is_parameter.ensures) (sym c.if-is_intermediate.ensures) (omega arith)

pub returns-then-is_last : goal.returns-then-is_last
returns-then-is_last c = first_ends c.control_sequence_key.result c.args.body.now c.args.byte c.requires (sym c.if-is_parameter.ensures) (sym c.if-is_intermediate.ensures) (sym c.if-is_last.ensures) c.control_sequence_key.ensures

pub returns-else-is_last : goal.returns-else-is_last
returns-else-is_last c = first_breaks c.args.body.now c.args.byte c.requires (sym c.if-is_parameter.ensures) (sym c.if-is_intermediate.ensures) (sym c.if-is_last.ensures)
