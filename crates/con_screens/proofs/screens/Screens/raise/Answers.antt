use Rattle.std.proofs.Common.{ap, ◌∙◌}
use Rattle.con_grid.specs.Picture.{Picture, raised}
use Rattle.con_screens.specs.StampLaws.{numbered_left}
use Rattle.con_screens.proofs.screens.Screens.raise.Goals as goal

pub returns-clause-kept : goal.returns-clause-kept
returns-clause-kept c = numbered_left c.args.self.now c.args.id.0 c.args.number c.screen_mut.result.now c.set_now.new.self c.requires.buffers c.requires.live c.screen_mut.ensures.screen
    (c.set_now.ensures.grid ∙ ap (λ (g : Picture). raised g c.args.number) c.grid_mut.ensures.grid)
