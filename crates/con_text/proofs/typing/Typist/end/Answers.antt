use Rattle.std.proofs.Common.{◌≡◌, ap, ◌∙◌, subst, arith}
use Rattle.con_text.specs.Words.Typing.{ended, ShowsBuffers}
use Rattle.con_text.proofs.WindowLemmas.{ok_mapped, ended_cut, ended_whole}
use Rattle.con_text.proofs.typing.Typist.end.Goals as goal
use Rattle.con_text.proofs.typing.Typist.end.Goals.{then-held-gt0+in_ok-written, else-held-gt0}

pub returns-clause-shows : goal.returns-clause-shows
returns-clause-shows c =
    let same : c.if-held-gt0.self-inside.screens ≡ ended c.args.self.now = elim c.if-held-gt0.branch [
      | then-held-gt0+in_ok-written w ↦ ap (λ i. i.screens) w.self-inside-is ∙ ended_cut c.args.self.now _ _ _ _ c.self.view_is c.held.ensures w.if-held-gt0.true w.in_ok-written.ensures.buffers
      | else-held-gt0 w ↦ ap (λ i. i.screens) w.self-inside-is ∙ ended_whole c.args.self.now _ _ _ c.self.view_is c.held.ensures (omega (arith, w.if-held-gt0.false))
    ] in
    ok_mapped c.framed.result _ _ (λ bytes shows. subst (ShowsBuffers bytes.items) same shows) c.framed.ensures.shows
