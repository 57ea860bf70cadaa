use Rattle.std.proofs.Common.{rules, ap, ◌∙◌}
use Rattle.con_page.specs.Sides.{sides}
use Rattle.con_screen.specs.Screen.{Screen}
use Rattle.con_screen.proofs.EchoLemmas.{changed_sides}
use Rattle.con_screen.proofs.screen.Screen.echo.Goals as goal

pub returns-clause-sides : goal.returns-clause-sides
returns-clause-sides c = ap sides c.echo.ensures.effect ∙ changed_sides c.self.inside.page c.args.origin _ _ _ ∙ ap (λ (s : Screen). sides s.page) c.self.view_is

pub returns-clause-screen : goal.returns-clause-screen
returns-clause-screen c = search rules
