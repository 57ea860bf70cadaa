use Rattle.std.proofs.Common.{arith, ◌+◌, ◌≤◌, length}
use Rattle.std.proofs.lemmas.Grind.{common_steps}
use Rattle.con_grid.specs.Inside.{picture_of}
use Rattle.con_grid.proofs.StampLemmas.{units_keeps, renumbered}
use Rattle.con_grid.proofs.grid.Grid.put_units.Goals as goal

pub invariant_of-self : goal.invariant_of-self
invariant_of-self c =
    let inside : c.args.at + length c.args.units.now ≤ length c.self.inside.cells = grind (arith, common_steps) in
    rw c.put_units.ensures (renumbered _ _ (units_keeps (picture_of c.self.inside) c.self.inside.stamps _ c.args.at c.args.units.now c.args.attr c.self.invariant inside c.stamp_run.ensures))

pub returns-clause-picture : goal.returns-clause-picture
returns-clause-picture c =
    let inside : c.args.at + length c.args.units.now ≤ length c.self.inside.cells = grind (arith, common_steps) in
    rw (c.put_units.ensures, c.stamp_run.ensures.same) (units_keeps (picture_of c.self.inside) c.self.inside.stamps _ c.args.at c.args.units.now c.args.attr c.self.invariant inside c.stamp_run.ensures).picture
