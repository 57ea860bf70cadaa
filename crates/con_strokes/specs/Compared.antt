-- Rows that differ from those that were painted last.
use Rattle.std.specs.Prelude.{ℕ, zero, suc, ◌+◌, ◌-◌, ◌*◌, ◌≡◌, Bool, true, false, ◌==◌, ◌&&◌, List, [], ◌∷◌, take, drop, if◌then◌else◌}
use Rattle.con_units.specs.Glyph.{Glyph}
use Rattle.con_units.specs.View.{row_of}
use Rattle.con_term.specs.Same.{same_attr}

-- the same unit, word and shades
abbrev pub same_cell : Glyph → Glyph → Bool
same_cell a b = (a.unit == b.unit) && same_attr a.attr b.attr

abbrev pub same_cells : List Glyph → List Glyph → Bool
same_cells [] [] = true
same_cells (a ∷ as') (b ∷ bs) = same_cell a b && same_cells as' bs
same_cells _ _ = false

-- of the first y rows, how many differ
unfoldable pub differing : ℕ → ℕ → List Glyph → List Glyph → ℕ
differing w zero a b = 0
differing w (suc y) a b = differing w y a b + (if same_cells (row_of w a y) (row_of w b y) then 0 else 1)

-- the rows of a view are the old ones lifted by k, with k new rows below
abbrev pub IsLifted : ℕ → ℕ → ℕ → List Glyph → List Glyph → Type 0
IsLifted w h k v old = take (h * w - k * w) v ≡ drop (k * w) old
