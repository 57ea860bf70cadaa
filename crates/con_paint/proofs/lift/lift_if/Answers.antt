-- Fewer than two rows differ.
use Rattle.con_paint.proofs.LiftLemmas.{stays, few_rows, no_rows}
use Rattle.con_paint.proofs.lift.lift_if.Goals as goal

pub returns-then-rows-lt2-clause-lifts : goal.returns-then-rows-lt2-clause-lifts
returns-then-rows-lt2-clause-lifts c = rw c.stay.ensures (stays c.args.size.w c.args.size.h c.args.rows c.args.cells.now c.args.shadow.now.items c.args.at c.args.before c.args.out.now.items c.requires.lengths.1 c.requires.few.2
    (λ e. no_rows c.args.size.w c.args.size.h c.args.rows c.args.cells.now c.args.shadow.now.items c.requires.rows e)
    (λ k some most is. few_rows c.args.size.w c.args.size.h c.args.rows k c.args.cells.now c.args.shadow.now.items c.requires.rows c.if-rows-lt2.true some))
