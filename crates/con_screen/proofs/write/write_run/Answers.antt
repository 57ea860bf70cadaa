-- Nothing, controls that act, or prints.
use Rattle.std.proofs.Common.{take}
use Rattle.con_screen.proofs.RunLemmas.{none_run, ended_if, printed_run}
use Rattle.con_screen.proofs.write.write_run.Goals as goal

pub returns-then-not-is_clear-clause-run : goal.returns-then-not-is_clear-clause-run
returns-then-not-is_clear-clause-run c = none_run _

pub returns-then-first-ge32-clause-run : goal.returns-then-first-ge32-clause-run
returns-then-first-ge32-clause-run c = let e = c.print_run.ensures in
    printed_run _ (take c.print_run.result c.args.units.now) _ (c.is_clear.ensures.clear c.if-not-is_clear.false) e.all e.effect

pub returns-then-is_end-clause-run : goal.returns-then-is_end-clause-run
returns-then-is_end-clause-run c = let e = c.end_rows.ensures in
    ended_if _ c.args.units.now c.end_rows.result _ e.count (c.is_clear.ensures.clear c.if-not-is_clear.false) e.acting e.all e.effect

pub returns-clause-run : goal.returns-clause-run
returns-clause-run c = none_run _
