-- What a grid keeps.
use Rattle.std.specs.Prelude.{List, Option, None, Some}
use Rattle.con_units.specs.Glyph.{Glyph}
use Rattle.con_grid.specs.Picture.{Picture}
use Rattle.con_grid.specs.Stamps.{AreStampsOf}
use Rattle.con_grid.specs.declared.grid.Moment.{Moment}
use Rattle.con_grid.specs.declared.grid.Moment.TheVariants.{Never, At}
use Rattle.con_grid.specs.declared.grid.Grid.TheInside.{Inside}

abbrev pub moment_of : Moment → Option (List Glyph)
moment_of Never = None
moment_of (At cells) = Some cells.value

abbrev pub picture_of : Inside → Picture
picture_of a = record { width = a.width; height = a.height; cells = a.cells; now = a.stamps.now; moment = moment_of a.moment.value }

abbrev pub IsGrid : Inside → Type 0
IsGrid a = AreStampsOf (picture_of a) a.stamps
