-- A lift, or nothing.
use Rattle.std.proofs.Common.{arith}
use Rattle.con_paint.proofs.LiftLemmas.{stays, few_by, moves, no_rows}
use Rattle.con_paint.proofs.lift.lift_by_least.Goals as goal

pub returns-then-rows-least-clause-lifts : goal.returns-then-rows-least-clause-lifts
returns-then-rows-least-clause-lifts c = rw c.stay.ensures (stays c.args.size.w c.args.size.h c.args.rows c.args.cells.now c.args.shadow.now.items c.args.at c.args.before c.args.out.now.items c.requires.lengths.1 c.requires.few.3
    (λ e. no_rows c.args.size.w c.args.size.h c.args.rows c.args.cells.now c.args.shadow.now.items c.requires.rows e)
    (few_by c.args.size.w c.args.size.h c.least_lift-least.result c.args.rows c.args.cells.now c.args.shadow.now.items (rw c.as_slice.ensures.value at c.least_lift-least.ensures) c.requires.rows c.if-rows-least.true))

pub returns-clause-lifts : goal.returns-clause-lifts
returns-clause-lifts c = rw c.plain_attr.ensures (moves c.args.size.w c.args.size.h c.least_lift-least.result c.args.rows c.args.cells.now c.args.shadow.now.items _ c.args.at c.scroll-spot.result c.args.before c.args.out.now.items c.scroll-spot.new.out.items c.requires.lengths.1 c.requires.few.3
    (rw c.as_slice.ensures.value at c.least_lift-least.ensures) c.requires.rows (omega (arith, c.if-rows-least.false)) c.scroll-spot.ensures.cells c.scroll-spot.ensures.lifted)
