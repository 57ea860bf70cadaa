-- The words of the code and of laws about Part, which a reader need not believe.
use Rattle.std.specs.Prelude.{ℕ, ◌+◌, ◌*◌, ◌&&◌, nat_lt, get_or, if◌then◌else◌}
use Rattle.con_units.specs.Glyph.{Glyph, blank_cell}
use Rattle.con_units.specs.declared.view.View.{View}

-- the cell of a view at a column and a row; a space past the view
abbrev pub cell_at : View → ℕ → ℕ → Glyph
cell_at v x y = if nat_lt x v.size.w && nat_lt y v.size.h then get_or v.rows (y * v.size.w + x) blank_cell else blank_cell
