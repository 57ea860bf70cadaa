-- What is told of another item than a sequence or a title.
use Rattle.con_screen.proofs.WriteLemmas.{quiet_told, quiet_switch}
use Rattle.con_screen.proofs.write.tell.Goals as goal

pub returns-in_default-clause-told : goal.returns-in_default-clause-told
returns-in_default-clause-told c = rw (quiet_told c.args.page.now c.args.answers.now.told c.args.title.now c.args.found c.args.unit c.args.csi.now c.in_default.not-Sequence c.in_default.not-Title) c.spend.ensures

pub returns-in_default-clause-switch : goal.returns-in_default-clause-switch
returns-in_default-clause-switch c = quiet_switch c.args.found c.args.unit c.args.csi.now c.in_default.not-Sequence c.in_default.not-Title
