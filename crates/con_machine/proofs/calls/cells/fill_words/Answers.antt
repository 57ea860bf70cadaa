use Rattle.con_machine.proofs.Lent.{lent_counts}
use Rattle.con_machine.proofs.Gridding.{grid_keeps, grid_remembers, word_sides}
use Rattle.con_machine.proofs.calls.cells.fill_words.Goals as goal

pub returns-clause-kept : goal.returns-clause-kept
returns-clause-kept c = grid_keeps c.args.screens.now c.args.id.0 c.screen_mut.result.now c.fill_attrs.new.grid c.requires.buffers c.requires.live c.screen_mut.ensures.screen c.fill_attrs.ensures.picture
    (word_sides c.screen_mut.result.now.page c.grid_mut.result.now c.fill_attrs.new.grid c.args.from c.args.n c.args.word c.grid_mut.ensures.grid c.fill_attrs.ensures.grid)

pub returns-clause-counted : goal.returns-clause-counted
returns-clause-counted c = lent_counts c.args.screens.now c.args.id.0 _

pub returns-clause-remembered : goal.returns-clause-remembered
returns-clause-remembered c = grid_remembers c.args.screens.now c.args.id.0 c.screen_mut.result.now c.fill_attrs.new.grid c.screen_mut.ensures.screen
    (word_sides c.screen_mut.result.now.page c.grid_mut.result.now c.fill_attrs.new.grid c.args.from c.args.n c.args.word c.grid_mut.ensures.grid c.fill_attrs.ensures.grid)
