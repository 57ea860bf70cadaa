-- The law, bytes by bytes and then for the view.
use Rattle.tests_audit.proofs.callers.is_shown_by_all.Goals as goal

pub returns : goal.returns
returns c = λ t a e. c.a_partial_terminal_stays_true.ensures.shows _ _ _ (c.a_partial_terminal_stays_true.ensures.goes_on _ t _ a) (rw c.play_all.ensures at (c.knows.ensures.0 e))
