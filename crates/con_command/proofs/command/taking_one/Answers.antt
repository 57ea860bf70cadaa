use Rattle.std.proofs.Common.{ap, codes, ◌∙◌}
use Rattle.std.proofs.lemmas.Result.{IfOk-weaker}
use Rattle.clap.specs.Words.{App}
use Rattle.con_command.specs.Command.{with_word}
use Rattle.con_command.proofs.command.taking_one.Goals as goal

pub returns-clause-app : goal.returns-clause-app
returns-clause-app c = IfOk-weaker c.with_word.result _ _ (λ r h. h ∙ ap (λ (a : App). with_word a (codes "word")) c.new-command.ensures.app) c.with_word.ensures.app

pub returns-clause-local : goal.returns-clause-local
returns-clause-local c = IfOk-weaker c.with_word.result _ _ (λ r h. h ∙ c.new-command.ensures.local) c.with_word.ensures.local
