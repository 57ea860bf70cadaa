use Rattle.con_machine.proofs.Pairs.{one_ok}
use Rattle.con_machine.proofs.calls.cell_calls.cells_for.Goals as goal

pub returns-in-One : goal.returns-in-One
returns-in-One c = one_ok c.cells_in_one.result c.args.units.now c.as_slice.result.now c.in-One.word c.args.words.now c.in-One.is c.as_slice.ensures c.cells_in_one.ensures
