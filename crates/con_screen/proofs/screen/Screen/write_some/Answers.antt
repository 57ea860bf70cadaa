use Rattle.std.proofs.Common.{rules, ap, ◌∙◌, take}
use Rattle.con_page.specs.Sides.{sides}
use Rattle.con_screen.specs.Screen.{Screen}
use Rattle.con_screen.specs.ScreenView.{screen_of}
use Rattle.con_screen.proofs.SidesLemmas.{written_sides}
use Rattle.con_screen.proofs.screen.Screen.write_some.Goals as goal

pub returns-clause-sides : goal.returns-clause-sides
returns-clause-sides c =
    ap sides c.write_some.ensures.done.page_is ∙ written_sides (screen_of c.self.inside) c.args.answers.now.told (take c.write_some.result.0 c.args.units.now) ∙ ap (λ (s : Screen). sides s.page) c.self.view_is

pub returns-clause-switch : goal.returns-clause-switch
returns-clause-switch c = search rules
