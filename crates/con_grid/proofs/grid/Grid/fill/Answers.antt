use Rattle.std.proofs.Common.{arith, ◌≤◌, length}
use Rattle.std.proofs.lemmas.Grind.{common_steps}
use Rattle.con_grid.specs.Inside.{picture_of}
use Rattle.con_grid.proofs.StampLemmas.{filled_keeps, renumbered}
use Rattle.con_grid.proofs.grid.Grid.fill.Goals as goal

pub invariant_of-self : goal.invariant_of-self
invariant_of-self c =
    let inside : c.args.upto ≤ length c.self.inside.cells = grind (arith, common_steps) in
    rw c.fill.ensures (renumbered _ _ (filled_keeps (picture_of c.self.inside) c.self.inside.stamps _ c.args.from c.args.upto c.args.cell c.self.invariant c.requires.order inside c.stamp_run.ensures))

pub returns-clause-picture : goal.returns-clause-picture
returns-clause-picture c =
    let inside : c.args.upto ≤ length c.self.inside.cells = grind (arith, common_steps) in
    rw (c.fill.ensures, c.stamp_run.ensures.same) (filled_keeps (picture_of c.self.inside) c.self.inside.stamps _ c.args.from c.args.upto c.args.cell c.self.invariant c.requires.order inside c.stamp_run.ensures).picture
