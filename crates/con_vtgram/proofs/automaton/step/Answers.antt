use Rattle.std.proofs.Common.{ap, ◌∙◌}
use Rattle.con_vtgram.specs.TitleKept.{pending}
use Rattle.con_vtgram.proofs.StepLemmas.{ground}
use Rattle.con_vtgram.proofs.TitleLemmas.{text_of_escape}
use Rattle.con_vtgram.proofs.automaton.step.Goals as goal

pub returns-in-Ground-clause-gives : goal.returns-in-Ground-clause-gives
returns-in-Ground-clause-gives c = λ tail h. ground _ _ tail c.args.unit (rw c.in-Ground.is at h) (c.begin.ensures.gives _)

pub returns-in-Paren-clause-gives : goal.returns-in-Paren-clause-gives
returns-in-Paren-clause-gives c = λ tail h. let g = rw c.in-Paren.is at h in rw g.1 (c.from_nested.ensures.gives _ g.0 g.2 g.3 g.4)

pub returns-in-Nested-clause-gives : goal.returns-in-Nested-clause-gives
returns-in-Nested-clause-gives c = λ tail h. let g = rw c.in-Nested.is at h in rw g.1 (c.from_nested-in-Nested.ensures.gives _ g.0 g.2 g.3 g.4)

pub returns-in-Text-clause-gives : goal.returns-in-Text-clause-gives
returns-in-Text-clause-gives c = λ tail h. let g = rw c.in-Text.is at h in rw g.2 (c.from_text.ensures.gives _ g.0 g.1 g.3)

pub returns-in-Text-clause-title : goal.returns-in-Text-clause-title
returns-in-Text-clause-title c = λ tail h k.
    let g = rw c.in-Text.is at h in
    let kept = rw c.in-Text.is at k in
    rw g.2 (c.from_text.ensures.title _ g.0 g.1 g.3 (λ e. kept e ∙ ap pending g.2))

pub returns-in-TextEscape-clause-gives : goal.returns-in-TextEscape-clause-gives
returns-in-TextEscape-clause-gives c = λ tail h. let g = rw c.in-TextEscape.is at h in rw g.2 (c.from_text_escape.ensures.gives _ g.0 g.1 g.3)

pub returns-in-TextEscape-clause-title : goal.returns-in-TextEscape-clause-title
returns-in-TextEscape-clause-title c = λ tail h k.
    let g = rw c.in-TextEscape.is at h in
    let kept = rw c.in-TextEscape.is at k in
    rw g.2 (c.from_text_escape.ensures.title _ g.0 g.1 c.args.title.now.items g.3 (λ e. kept e ∙ ap pending g.2 ∙ text_of_escape g.1))
