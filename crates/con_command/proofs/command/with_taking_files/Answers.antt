use Rattle.std.proofs.Common.{ap, ◌∙◌}
use Rattle.std.proofs.lemmas.Result.{IfOk-weaker}
use Rattle.clap.specs.Words.{App, app_of}
use Rattle.con_command.specs.Command.{and_more}
use Rattle.con_command.proofs.command.with_taking_files.Goals as goal

pub returns : goal.returns
returns c =
    IfOk-weaker c.subcommand.result _ _ (λ r h. h.shape c.in_ok-more.ensures.local ∙ ap (λ (a : App). and_more (app_of c.args.command) a) c.in_ok-more.ensures.app)
    c.subcommand.ensures
