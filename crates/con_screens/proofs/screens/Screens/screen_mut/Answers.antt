use Rattle.std.proofs.Common.{◌≡◌, refl, sym, subst}
use Rattle.con_screen.specs.Screen.{Screen}
use Rattle.con_screens.specs.Words.Buffer.{HasWindow}
use Rattle.con_screens.specs.Buffers.{screen_at}
use Rattle.con_screens.specs.LentLaws.{screen_has}
use Rattle.con_screens.proofs.KeepLemmas.{lent_is}
use Rattle.con_screens.proofs.screens.Screens.screen_mut.Goals as goal

pub returns : goal.returns
returns c =
    let screen : c.lend.result.now ≡ screen_at c.args.self.now c.args.id.0 = lent_is c.args.self.now c.args.id.0 c.lend.result.now c.requires.live c.lend.ensures.screen in
    let window : HasWindow c.lend.result.now c.args.self.now.w c.args.self.now.h =
    subst (λ (x : Screen). HasWindow x c.args.self.now.w c.args.self.now.h) (sym screen) (screen_has c.args.self.now c.args.id.0 c.requires.buffers c.requires.live) in
    ((refl, λ w. refl), record { lends = tt; shown = c.lend.ensures.screen; screen = screen; window = window })
