use Rattle.std.proofs.Common.{sym, ◌∙◌}
use Rattle.con_threads.proofs.Passing.{entered_blocked, entered_sent}
use Rattle.con_threads.proofs.side.pass_on.Goals as goal

pub returns-clause-sent : goal.returns-clause-sent
returns-clause-sent g c = λ e. entered_sent _ _ _ c.in_ok-answer.answer _ _ c.in_ok-answer.ensures.entered c.requires.actor (sym c.was_told.ensures ∙ e)

pub returns-clause-blocked : goal.returns-clause-blocked
returns-clause-blocked g c =
    λ e.
    entered_blocked _ _ _ _ _ c.in_ok-answer.answer _ _ c.in_ok-answer.ensures.blocked c.requires.actor
    (c.in_ok-answer.ensures.same.actor ∙ c.requires.actor) (sym c.was_told.ensures ∙ e)
