use Rattle.con_screens.specs.LentLaws.{lent_keeps}
use Rattle.con_screens.specs.StampLaws.{remembers}
use Rattle.con_machine.proofs.Lent.{lent_counts, refused_same}
use Rattle.con_machine.proofs.calls.setters.set_cursor.Goals as goal

pub returns-clause-kept : goal.returns-clause-kept
returns-clause-kept c = lent_keeps _ _ _ _ c.requires.buffers c.requires.live c.screen_mut.ensures.screen c.set_cursor.ensures.page c.set_cursor.ensures.sides

pub returns-clause-counted : goal.returns-clause-counted
returns-clause-counted c = lent_counts c.args.screens.now c.args.id.0 c.set_cursor.new.self

pub returns-clause-remembered : goal.returns-clause-remembered
returns-clause-remembered c = remembers c.args.screens.now _ _ _ c.screen_mut.ensures.screen c.set_cursor.ensures.sides

pub returns-clause-refused : goal.returns-clause-refused
returns-clause-refused c = refused_same c.set_cursor.result _ c.args.screens.now c.args.id.0 c.screen_mut.result.now c.set_cursor.new.self c.screen_mut.ensures.screen c.set_cursor.ensures.refused
