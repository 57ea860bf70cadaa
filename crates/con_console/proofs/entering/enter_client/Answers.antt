use Rattle.std.proofs.Common.{◌∙◌, ap}
use Rattle.con_console.proofs.Plain.{effect_plain}
use Rattle.con_machine.specs.Marks.{told}
use Rattle.con_console.proofs.entering.enter_client.Goals as goal

pub returns-clause-plain : goal.returns-clause-plain
returns-clause-plain c = ap told c.client-reply.ensures.reply ∙ effect_plain c.args.parts.now.state c.args.p c.args.event.now
