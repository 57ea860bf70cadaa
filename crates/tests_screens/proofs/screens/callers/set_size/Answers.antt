use Rattle.con_screens.specs.LentLaws.{resized_keeps}
use Rattle.tests_screens.proofs.screens.callers.set_size.Goals as goal

pub returns-clause-kept : goal.returns-clause-kept
returns-clause-kept c = resized_keeps _ _ _ _ _ _ _ c.requires.buffers c.requires.live c.resize.ensures.page c.resize.ensures.sides c.requires.window.0 c.requires.window.1 c.requires.alternate
