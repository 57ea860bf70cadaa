use Rattle.std.proofs.Common.{◌*◌, ap, ◌∙◌}
use Rattle.con_grid.specs.Picture.{Picture, part_lifted, lifted}
use Rattle.con_grid.proofs.RingLemmas.{part_whole, with_same}
use Rattle.con_grid.proofs.grid.Grid.scroll_up.Goals as goal

pub returns-clause-grid : goal.returns-clause-grid
returns-clause-grid c =
    let by = c.args.k * c.self.inside.width in
    let as_wide = ap (λ (p : Picture). p.width) c.self.view_is in
    with_same c.lift.new.self c.args.self.now (part_lifted c.args.self.now.cells 0 c.count-count.result by c.args.cell) (lifted c.args.self.now.cells (c.args.k * c.args.self.now.width) c.args.cell) c.lift.ensures.grid
    (ap (λ n. part_lifted c.args.self.now.cells 0 n by c.args.cell) c.count-count.ensures.cells ∙ part_whole c.args.self.now.cells by c.args.cell ∙ ap (λ n. lifted c.args.self.now.cells (c.args.k * n) c.args.cell) as_wide)
