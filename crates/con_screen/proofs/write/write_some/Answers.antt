use Rattle.con_screen.proofs.RunLemmas.{run_some, run_none, one_done}
use Rattle.con_screen.proofs.write.write_some.Goals as goal

pub returns-then-n-gt0-clause-done : goal.returns-then-n-gt0-clause-done
returns-then-n-gt0-clause-done c = run_some _ c.args.answers.now _ c.args.units.now c.write_run-n.result _ c.write_run-n.ensures.count c.write_run-n.ensures.run c.spend.ensures

pub returns-else-n-gt0-clause-done : goal.returns-else-n-gt0-clause-done
returns-else-n-gt0-clause-done c =
    let same = run_none _ c.args.answers.now.told c.args.units.now c.write_run-n.result _ c.if-n-gt0.false c.write_run-n.ensures.run in
    one_done _ c.args.answers.now _ c.args.units.now _ _ _ _ c.requires.some same c.write_unit-switched.ensures.done
