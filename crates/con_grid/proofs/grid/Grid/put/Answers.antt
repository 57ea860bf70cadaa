use Rattle.std.proofs.Common.{arith, ◌<◌, length}
use Rattle.std.proofs.lemmas.Grind.{common_steps}
use Rattle.con_grid.specs.Inside.{picture_of}
use Rattle.con_grid.proofs.StampLemmas.{put_keeps}
use Rattle.con_grid.proofs.grid.Grid.put.Goals as goal

pub invariant_of-self : goal.invariant_of-self
invariant_of-self c =
    let inside : c.args.at < length c.self.inside.cells = grind (arith, common_steps) in
    rw (c.put.ensures, c.stamp_row.ensures) (put_keeps (picture_of c.self.inside) c.self.inside.stamps c.args.at c.args.cell c.self.invariant inside)
