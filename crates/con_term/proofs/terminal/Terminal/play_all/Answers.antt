-- The parts are the whole, and the sides stay.
use Rattle.std.proofs.Common.{ap, ◌∙◌}
use Rattle.con_term.specs.Terminal.{Terminal}
use Rattle.con_term.specs.Inside.{terminal_of}
use Rattle.con_term.specs.PlayLaws.{play-sides}
use Rattle.con_term.proofs.terminal.Terminal.play_all.Goals as goal

pub returns-clause-played : goal.returns-clause-played
returns-clause-played c = rw (← c.self.view_is) c.all_played.ensures

pub returns-clause-sides : goal.returns-clause-sides
returns-clause-sides c =
    let t : Terminal = terminal_of c.self.inside in
    let sides = play-sides t c.args.bytes.now in
    rw (← c.self.view_is) (ap (λ u. u.page.w) c.all_played.ensures ∙ sides.0, ap (λ u. u.page.h) c.all_played.ensures ∙ sides.1)
