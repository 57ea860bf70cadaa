use Rattle.std.proofs.Common.{ap, ◌∙◌}
use Rattle.std.proofs.lemmas.Result.{IfOk-weaker}
use Rattle.con_term.specs.Terminal.{Terminal}
use Rattle.con_term.specs.Play.{play}
use Rattle.con_text.specs.Words.Playing.{dump_bytes}
use Rattle.con_sessions.proofs.summary.shown.Goals as goal

pub returns : goal.returns
returns c =
    let played = c.play_all.ensures.played ∙ ap (λ (t : Terminal). play t c.args.stream.now) c.in_ok-terminal.ensures.blank in
    IfOk-weaker c.dumped.result _ _ (λ bytes h. h ∙ ap (λ (t : Terminal). dump_bytes t.page) played) c.dumped.ensures
