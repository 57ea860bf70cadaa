use Rattle.std.proofs.Common.{arith, refl, ◌/◌, ◌-◌}
use Rattle.con_grid.proofs.StampLemmas.{run_rows, last_inside, first_last}
use Rattle.con_grid.proofs.stamps.Stamps.stamp_run.Goals as goal

pub returns : goal.returns
returns c =
    rw c.stamp_rows.ensures (run_rows c.args.self.now c.args.width c.args.from c.args.upto (c.args.from / c.args.width) ((c.args.upto - 1) / c.args.width) c.requires.wide (omega (arith, c.requires.order, c.if-from-upto.false))
    (last_inside c.args.width _ c.args.from c.args.upto c.requires.wide c.requires.order c.if-from-upto.false c.requires.inside)
    (first_last c.args.width c.args.from c.args.upto c.requires.wide c.requires.order c.if-from-upto.false) refl refl)
