use Rattle.con_machine.proofs.Lent.{lent_counts}
use Rattle.con_machine.proofs.Gridding.{grid_keeps, grid_remembers, grid_refused, result_sides, rect_sides}
use Rattle.con_machine.proofs.calls.cells.write_rect.Goals as goal

pub returns-clause-kept : goal.returns-clause-kept
returns-clause-kept c = grid_keeps c.args.screens.now c.args.id.0 c.screen_mut.result.now c.write_rect.new.grid c.requires.buffers c.requires.live c.screen_mut.ensures.screen c.write_rect.ensures.picture
    (result_sides c.write_rect.result _ _ _ c.screen_mut.result.now.page c.grid_mut.result.now c.write_rect.new.grid _ c.grid_mut.ensures.grid c.write_rect.ensures.done c.write_rect.ensures.refused (rect_sides c.screen_mut.result.now.page c.grid_mut.result.now c.args.rect c.args.cells.now c.grid_mut.ensures.grid))

pub returns-clause-counted : goal.returns-clause-counted
returns-clause-counted c = lent_counts c.args.screens.now c.args.id.0 _

pub returns-clause-remembered : goal.returns-clause-remembered
returns-clause-remembered c = grid_remembers c.args.screens.now c.args.id.0 c.screen_mut.result.now c.write_rect.new.grid c.screen_mut.ensures.screen
    (result_sides c.write_rect.result _ _ _ c.screen_mut.result.now.page c.grid_mut.result.now c.write_rect.new.grid _ c.grid_mut.ensures.grid c.write_rect.ensures.done c.write_rect.ensures.refused (rect_sides c.screen_mut.result.now.page c.grid_mut.result.now c.args.rect c.args.cells.now c.grid_mut.ensures.grid))

pub returns-clause-refused : goal.returns-clause-refused
returns-clause-refused c = grid_refused c.write_rect.result _ c.args.screens.now c.args.id.0 c.screen_mut.result.now c.grid_mut.result.now c.write_rect.new.grid c.screen_mut.ensures.screen c.grid_mut.ensures.grid c.write_rect.ensures.refused
