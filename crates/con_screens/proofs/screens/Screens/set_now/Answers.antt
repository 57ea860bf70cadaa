use Rattle.std.proofs.Common.{◌≡◌, sym, ap, subst, ◌∙◌}
use Rattle.con_screen.specs.Screen.{Screen}
use Rattle.con_page.specs.Sides.{sides}
use Rattle.con_screens.specs.Buffers.{Buffers, screen_at}
use Rattle.con_screens.specs.View.{view_of}
use Rattle.con_screens.specs.Stamps.{numbered}
use Rattle.con_screens.specs.Words.Stamps.{WasShown}
use Rattle.con_screens.specs.LentLaws.{screen_has, left_shows}
use Rattle.con_screens.specs.StampLaws.{raised_shown, raised_view}
use Rattle.con_screens.proofs.screens.Screens.set_now.Goals as goal

pub returns-clause-view : goal.returns-clause-view
returns-clause-view c =
    let old : Screen = screen_at c.args.self.now c.args.id.0 in
    let is : screen_at c.raise.new.self c.args.id.0 ≡ numbered old c.args.number = ap (λ (s : Buffers). screen_at s c.args.id.0) c.raise.ensures.buffers ∙ left_shows c.args.self.now c.args.id.0 (numbered old c.args.number) c.requires.live in
    ap (λ (x : Screen). view_of x.page) is ∙ raised_view old.page c.args.number

pub returns-clause-shown : goal.returns-clause-shown
returns-clause-shown c = λ more.
    let old : Screen = screen_at c.args.self.now c.args.id.0 in
    let is : screen_at c.raise.new.self c.args.id.0 ≡ numbered old c.args.number = ap (λ (s : Buffers). screen_at s c.args.id.0) c.raise.ensures.buffers ∙ left_shows c.args.self.now c.args.id.0 (numbered old c.args.number) c.requires.live in
    subst (λ (x : Screen). WasShown (sides x.page) x.page.left x.page.top (view_of old.page)) (sym is) (raised_shown old.page c.args.number (screen_has c.args.self.now c.args.id.0 c.requires.buffers c.requires.live).page more)
