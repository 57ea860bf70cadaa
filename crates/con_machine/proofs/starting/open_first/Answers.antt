use Rattle.con_machine.proofs.First.{three_ok}
use Rattle.con_machine.proofs.starting.open_first.Goals as goal

pub returns-clause-open : goal.returns-clause-open
returns-clause-open c = three_ok c.open_one-3.result c.args.p c.args.handles.now.open_ones c.open_one.new.handles.open_ones c.open_one-2.new.handles.open_ones c.open_one-3.new.handles.open_ones c.requires.before c.in_ok-open_one.ensures.open c.in_ok-open_one-2.ensures.open c.open_one-3.ensures.open
