use Rattle.std.proofs.Common.{refl}
use Rattle.unicode_width.specs.Width.{char_width}
use Rattle.con_units.specs.Stored.{is_shown}
use Rattle.con_grid.specs.Picture.{filled, lifted, lowered, part_lifted, part_lowered}
use Rattle.con_grid.specs.Words.Picture.{units_put}
use Rattle.tests_screens.proofs.cells.rows.cells_move_past_a_scrolled_row.Goals as goal

pub returns-clause-changed : goal.returns-clause-changed
unfolding char_width is_shown filled lifted lowered part_lifted part_lowered units_put
returns-clause-changed c = refl

pub returns-clause-moved : goal.returns-clause-moved
unfolding char_width is_shown filled lifted lowered part_lifted part_lowered units_put
returns-clause-moved c = refl
