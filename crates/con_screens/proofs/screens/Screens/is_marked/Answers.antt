use Rattle.std.proofs.Common.{◌≡◌, ◌∙◌, ap, subst}
use Rattle.con_screen.specs.Screen.{Screen}
use Rattle.con_screens.specs.Buffers.{screen_at}
use Rattle.con_screens.specs.Words.Stamps.{IsAsShown}
use Rattle.con_screens.proofs.screens.Screens.is_marked.Goals as goal

pub returns : goal.returns
returns c =
    let shown : c.screen.result.now ≡ screen_at c.args.self.now c.args.self.now.active = c.screen.ensures.screen ∙ ap (λ id. screen_at c.args.self.now id) c.active.ensures in
    record { same = λ e. subst (λ (s : Screen). IsAsShown s.page c.args.y) shown (c.is_stamped.ensures e) }
