use Rattle.std.proofs.Common.{ap, codes, false, ◌≡◌, ◌∙◌}
use Rattle.std.proofs.lemmas.Result.{IfOk-weaker}
use Rattle.clap.specs.Words.{App, app_of, new_app}
use Rattle.clap.specs.declared.builder.command.Command.TheViews.{out-Command}
use Rattle.con_command.specs.Command.{with_word}
use Rattle.con_command.proofs.command.taking_files.Goals as goal

pub returns-clause-app : goal.returns-clause-app
returns-clause-app c =
    let one_is : app_of c.in_ok-one.one ≡ with_word (new_app (codes "audit")) (codes "session") = c.in_ok-one.ensures.app ∙ ap (λ (a : App). with_word a (codes "session")) c.new-audit.ensures.app in
    let two_is : app_of c.in_ok-two.two ≡ with_word (with_word (new_app (codes "audit")) (codes "session")) (codes "link") = c.in_ok-two.ensures.app ∙ ap (λ (a : App). with_word a (codes "link")) one_is in
    let three_is : app_of c.in_ok-three.three ≡ with_word (with_word (with_word (new_app (codes "audit")) (codes "session")) (codes "link")) (codes "stream") =
    c.in_ok-three.ensures.app ∙ ap (λ (a : App). with_word a (codes "stream")) two_is in
    IfOk-weaker c.with_word-4.result _ _ (λ r h. h ∙ ap (λ (a : App). with_word a (codes "report")) three_is) c.with_word-4.ensures.app

pub returns-clause-local : goal.returns-clause-local
returns-clause-local c =
    let one_is : (out-Command c.in_ok-one.one).has_globals ≡ false = c.in_ok-one.ensures.local ∙ c.new-audit.ensures.local in
    IfOk-weaker c.with_word-4.result _ _ (λ r h. h ∙ (c.in_ok-three.ensures.local ∙ (c.in_ok-two.ensures.local ∙ one_is))) c.with_word-4.ensures.local
