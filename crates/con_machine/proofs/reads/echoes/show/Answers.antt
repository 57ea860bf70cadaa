use Rattle.con_screens.specs.LentLaws.{lent_keeps}
use Rattle.con_screens.specs.StampLaws.{remembers}
use Rattle.con_machine.proofs.Lent.{lent_counts}
use Rattle.con_machine.proofs.reads.echoes.show.Goals as goal

pub returns-clause-kept : goal.returns-clause-kept
returns-clause-kept c = lent_keeps _ _ _ _ c.requires.buffers c.requires.live c.screen_mut.ensures.screen c.echo_on.ensures.page c.echo_on.ensures.sides

pub returns-clause-counted : goal.returns-clause-counted
returns-clause-counted c = lent_counts c.args.screens.now c.args.id.0 _

pub returns-clause-remembered : goal.returns-clause-remembered
returns-clause-remembered c = remembers c.args.screens.now _ _ _ c.screen_mut.ensures.screen c.echo_on.ensures.sides
