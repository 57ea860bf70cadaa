use Rattle.std.proofs.Common.{◌≡◌, ◌∙◌, Bool, true, false, ap, refl}
use Rattle.std.specs.Prelude.{◌||◌}
use Rattle.std.proofs.lemmas.Result.{IfOk-weaker}
use Rattle.clap.specs.Words.{Rule, app_of, new_rule, rule_of, with_rule}
use Rattle.clap.specs.declared.builder.arg.Arg.{Arg}
use Rattle.clap.specs.declared.builder.command.Command.TheViews.{out-Command}
use Rattle.con_command.proofs.command.with_word.Goals as goal

or_none : (b g : Bool) → g ≡ false → (b || g) ≡ b
or_none true g e = refl
or_none false g e = e

pub returns-clause-app : goal.returns-clause-app
returns-clause-app c =
    let here : c.required.result.global ≡ false = ap (λ (a : Arg). a.global) c.required.ensures ∙ c.new.ensures.optional.1 in
    let rule_is : rule_of c.required.result ≡ record (new_rule c.args.word.now) { required = true } =
    ap rule_of c.required.ensures ∙ ap (λ (x : Rule). record x { required = true }) c.new.ensures.rule in
    IfOk-weaker c.arg.result _ _ (λ r h. h.shape here ∙ ap (λ (x : Rule). with_rule (app_of c.args.command) x) rule_is) c.arg.ensures

pub returns-clause-local : goal.returns-clause-local
returns-clause-local c =
    let here : c.required.result.global ≡ false = ap (λ (a : Arg). a.global) c.required.ensures ∙ c.new.ensures.optional.1 in
    IfOk-weaker c.arg.result _ _ (λ r h. h.globals ∙ or_none (out-Command c.args.command).has_globals c.required.result.global here) c.arg.ensures
