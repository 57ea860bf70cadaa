-- One text after another is both at once.
use Rattle.std.proofs.Common.{ap, ◌∙◌}
use Rattle.con_term.specs.Play.{play}
use Rattle.con_term.specs.PlayLaws.{play-append}
use Rattle.tests_screens.proofs.term.callers.play_both.Goals as goal

pub returns-clause-played : goal.returns-clause-played
returns-clause-played c = c.play_all-2.ensures.played ∙ ap (λ t. play t c.args.second.now) c.play_all.ensures.played ∙ play-append c.args.terminal.now c.args.first.now c.args.second.now
