use Rattle.std.proofs.Common.{ℕ, ◌+◌, ◌<◌, subst, arith}
use Rattle.std.proofs.lemmas.Bool.Decides.{nat_tests}
use Rattle.con_grid.specs.Picture.{Picture}
use Rattle.con_grid.specs.Words.Picture.{IsUntouched}
use Rattle.con_screens.specs.StampLaws.{as_shown}
use Rattle.con_screens.proofs.shows.is_stamped.Goals as goal

pub returns : goal.returns
returns c = λ unmarked.
    let before : c.stamp.result < c.now.result = grind (arith, nat_tests) in
    let untouched : IsUntouched c.grid-grid.result.now (c.corner-top.result.1 + c.args.y) = c.stamp.ensures.untouched (omega (arith, before, c.now.ensures)) in
    let here : IsUntouched c.args.screen.now.page.grid (c.args.screen.now.page.top + c.args.y) =
    subst (λ (g : Picture). IsUntouched g (c.args.screen.now.page.top + c.args.y)) c.grid-grid.ensures (subst (λ (k : ℕ). IsUntouched c.grid-grid.result.now (k + c.args.y)) c.corner-top.ensures.top untouched) in
    as_shown c.args.screen.now.page c.args.y c.requires.page c.requires.below here
