use Rattle.std.proofs.Common.{rules, ap, ap₂, codes, ◌≡◌, ◌∙◌}
use Rattle.std.proofs.lemmas.Result.{IfOk-weaker}
use Rattle.clap.specs.Words.{App, app_of, new_app, with_subcommand}
use Rattle.con_command.specs.Command.{and_more, bare, taking, taking_files}
use Rattle.con_command.proofs.command.command.Goals as goal

abbrev first : App
first = and_more bare (new_app (codes "type"))

abbrev second : App
second = and_more first (taking (codes "play"))

abbrev third : App
third = and_more second (taking (codes "solo"))

abbrev fourth : App
fourth = and_more third (taking (codes "gen"))

abbrev fifth : App
fifth = and_more fourth (taking (codes "run"))

pub returns : goal.returns
returns c =
    let one_is : app_of c.in_ok-one.one ≡ first =
    c.in_ok-one.ensures.shape (search rules) ∙ ap₂ with_subcommand c.alone.ensures (ap (λ (a : App). a.top) c.new-typing.ensures.app) in
    let two_is : app_of c.in_ok-two.two ≡ second = c.in_ok-two.ensures ∙ ap (λ (a : App). and_more a (taking (codes "play"))) one_is in
    let three_is : app_of c.in_ok-three.three ≡ third = c.in_ok-three.ensures ∙ ap (λ (a : App). and_more a (taking (codes "solo"))) two_is in
    let four_is : app_of c.in_ok-four.four ≡ fourth = c.in_ok-four.ensures ∙ ap (λ (a : App). and_more a (taking (codes "gen"))) three_is in
    let five_is : app_of c.in_ok-five.five ≡ fifth = c.in_ok-five.ensures ∙ ap (λ (a : App). and_more a (taking (codes "run"))) four_is in
    let six_is : app_of c.in_ok-six.six ≡ and_more fifth (taking (codes "mirror")) = c.in_ok-six.ensures ∙ ap (λ (a : App). and_more a (taking (codes "mirror"))) five_is in
    IfOk-weaker c.with_taking_files.result _ _ (λ r h. h ∙ ap (λ (a : App). and_more a taking_files) six_is) c.with_taking_files.ensures
