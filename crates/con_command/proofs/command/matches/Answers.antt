use Rattle.std.proofs.Common.{ap, refl, true, map, subst, string_bytes, ◌≡◌, ◌∙◌}
use Rattle.std.proofs.lemmas.Result.{IfOk-weaker}
use Rattle.clap.specs.Words.{App, app_of, is_simple, is_simple_and_free, FailsBy, fault_of, subcommand_of}
use Rattle.con_command.specs.Command.{host}
use Rattle.con_command.proofs.command.matches.Goals as goal

simple : is_simple_and_free host ≡ true
simple = refl

app_is : (c : goal.After-try_get_matches_from) → app_of c.in_ok-command.command ≡ host
app_is c = c.in_ok-command.ensures

pub returns-clause-rows : goal.returns-clause-rows
returns-clause-rows c =
    let parse = c.try_get_matches_from in
    IfOk-weaker parse.result _ _ (λ m h. (h (ap is_simple (app_is c))).1 ∙ ap (λ (a : App). subcommand_of a (map string_bytes c.args.words.now)) (app_is c)) parse.ensures.matches

pub returns-clause-kinds : goal.returns-clause-kinds
returns-clause-kinds c =
    let parse = c.try_get_matches_from in
    subst (λ (a : App). FailsBy (fault_of a (map string_bytes c.args.words.now)) parse.result) (app_is c) (parse.ensures.kinds (ap is_simple_and_free (app_is c) ∙ simple))
