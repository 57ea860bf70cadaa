use Rattle.std.proofs.Common.{◌≡◌, ℕ, ◌+◌, ◌<◌, List, length, ap, ◌∙◌, sym, subst}
use Rattle.con_units.specs.Glyph.{Glyph}
use Rattle.con_units.specs.View.{row_of, row_part}
use Rattle.con_grid.specs.Words.Picture.{IsUntouched}
use Rattle.con_screens.proofs.ShowsLemmas.{known_rows, window_is}
use Rattle.con_screens.proofs.view.renewed.Goals as goal

pub renew_cells-requires-clause-known : goal.renew_cells-requires-clause-known
renew_cells-requires-clause-known c =
    let rows = known_rows c.args.screen.now.page c.args.last c.grid.result.now c.corner-left.result.0 c.corner-left.result.1 c.args.size c.requires.page c.requires.known c.grid.ensures c.corner-left.ensures.left c.corner-left.ensures.top c.requires.wide c.requires.tall in
    subst (λ (r : List Glyph). (y : ℕ) → y < c.args.size.h → IsUntouched c.grid.result.now (c.corner-left.result.1 + y) → row_part c.grid.result.now.width c.grid.result.now.cells c.corner-left.result.0 c.args.size.w (c.corner-left.result.1 + y) ≡ row_of c.args.size.w r y)
    (sym (c.rows.view_is ∙ c.into_rows-rows.ensures)) rows

pub renew_cells-requires-clause-count : goal.renew_cells-requires-clause-count
renew_cells-requires-clause-count c = rw (c.requires.wide, c.requires.tall) (ap (λ (l : List Glyph). length l) (c.rows.view_is ∙ c.into_rows-rows.ensures) ∙ c.requires.known.count)

pub returns : goal.returns
returns c = window_is c.args.screen.now.page c.args.size c.cursor_of-shown.result.0 c.cursor_of-shown.result.1 c.grid.result.now c.corner-left.result.0 c.corner-left.result.1 _ c.requires.wide c.requires.tall c.cursor_of-shown.ensures.place c.cursor_of-shown.ensures.shown
    c.grid.ensures c.corner-left.ensures.left c.corner-left.ensures.top c.renew_cells.ensures
