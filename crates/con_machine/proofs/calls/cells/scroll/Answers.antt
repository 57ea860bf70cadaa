use Rattle.con_machine.proofs.Lent.{lent_counts}
use Rattle.con_machine.proofs.Gridding.{grid_keeps, grid_remembers, scroll_sides}
use Rattle.con_machine.proofs.calls.cells.scroll.Goals as goal

pub returns-clause-kept : goal.returns-clause-kept
returns-clause-kept c = grid_keeps c.args.screens.now c.args.id.0 c.screen_mut.result.now c.scroll_rect.new.grid c.requires.buffers c.requires.live c.screen_mut.ensures.screen c.scroll_rect.ensures.picture
    (scroll_sides c.screen_mut.result.now.page c.grid_mut.result.now c.scroll_rect.new.grid c.args.source c.args.clip c.args.dest _ c.grid_mut.ensures.grid c.scroll_rect.ensures.grid)

pub returns-clause-counted : goal.returns-clause-counted
returns-clause-counted c = lent_counts c.args.screens.now c.args.id.0 _

pub returns-clause-remembered : goal.returns-clause-remembered
returns-clause-remembered c = grid_remembers c.args.screens.now c.args.id.0 c.screen_mut.result.now c.scroll_rect.new.grid c.screen_mut.ensures.screen
    (scroll_sides c.screen_mut.result.now.page c.grid_mut.result.now c.scroll_rect.new.grid c.args.source c.args.clip c.args.dest _ c.grid_mut.ensures.grid c.scroll_rect.ensures.grid)
