use Rattle.std.proofs.Common.{◌≡◌, ◌↔◌, ℕ, ◌+◌, ◌<◌, true, List, sym, subst}
use Rattle.con_units.specs.Glyph.{Glyph}
use Rattle.con_units.specs.View.{row_of, row_part}
use Rattle.con_grid.specs.Words.Picture.{IsUntouched}
use Rattle.con_screens.specs.View.{rows_in}
use Rattle.con_screens.proofs.ShowsLemmas.{known_rows, other_frame, by_rows}
use Rattle.con_screens.proofs.shows.shows_view.Goals as goal

pub has_all_rows-requires-clause-known : goal.has_all_rows-requires-clause-known
has_all_rows-requires-clause-known c = λ known.
    let rows = known_rows c.args.screen.now.page c.args.last.now c.grid.result.now c.corner-left.result.0 c.corner-left.result.1 c.args.size c.requires.page (c.requires.known known) c.grid.ensures c.corner-left.ensures.left c.corner-left.ensures.top c.requires.wide c.requires.tall in
    subst (λ (r : List Glyph). (y : ℕ) → y < c.args.size.h → IsUntouched c.grid.result.now (c.corner-left.result.1 + y) → row_part c.grid.result.now.width c.grid.result.now.cells c.corner-left.result.0 c.args.size.w (c.corner-left.result.1 + y) ≡ row_of c.args.size.w r y)
    (sym c.as_slice.ensures) rows

pub returns-then-not-has_frame : goal.returns-then-not-has_frame
returns-then-not-has_frame c = other_frame c.args.screen.now.page c.args.last.now c.has_frame.result c.args.size c.cursor_of-visible.result.0 c.cursor_of-visible.result.1 c.requires.wide c.requires.tall c.cursor_of-visible.ensures.place c.cursor_of-visible.ensures.shown c.has_frame.ensures c.if-not-has_frame.true

pub returns : goal.returns
returns c =
    let rows : (c.has_all_rows.result ≡ true) ↔ (rows_in c.grid.result.now.width c.grid.result.now.cells c.corner-left.result.0 c.corner-left.result.1 c.args.size.w c.args.size.h ≡ c.args.last.now.rows) =
    subst (λ (r : List Glyph). (c.has_all_rows.result ≡ true) ↔ (rows_in c.grid.result.now.width c.grid.result.now.cells c.corner-left.result.0 c.corner-left.result.1 c.args.size.w c.args.size.h ≡ r)) c.as_slice.ensures c.has_all_rows.ensures in
    by_rows c.args.screen.now.page c.args.last.now c.has_frame.result c.has_all_rows.result c.args.size c.cursor_of-visible.result.0 c.cursor_of-visible.result.1 c.grid.result.now c.corner-left.result.0 c.corner-left.result.1 c.requires.wide c.requires.tall
    c.cursor_of-visible.ensures.place c.cursor_of-visible.ensures.shown c.grid.ensures c.corner-left.ensures.left c.corner-left.ensures.top c.has_frame.ensures c.if-not-has_frame.false rows
