-- Parts computed.
use Rattle.std.proofs.Common.{◌≡◌, ℕ, pos, true, false, List, [], ◌∷◌, replicate, refl}
use Rattle.con_units.specs.Attr.{plain}
use Rattle.con_units.specs.Glyph.{Glyph, blank_cell}
use Rattle.con_units.specs.declared.place.Coord.{Coord}
use Rattle.con_units.specs.declared.view.View.{View}
use Rattle.con_mirror.specs.Part.{part}

abbrev letter : ℕ → Glyph
letter u = record { unit = u; attr = plain 7 }

abbrev at : ℕ → ℕ → Coord
at x y = record { x = pos x; y = pos y }

-- 80 by 25 behind a write of `abcdef`
abbrev written : View
written = record {
  size = record { w = 80; h = 25 };
  rows = letter 97 ∷ letter 98 ∷ letter 99 ∷ letter 100 ∷ letter 101 ∷ letter 102 ∷ replicate 1994 blank_cell;
  cursor = at 6 0;
  visible = true;
}

-- at 4 by 2 it shows `def` and a space, with the cursor at 3, 0
cursor_in_the_last_column : part written (record { w = 4; h = 2 }) ≡ record {
  size = record { w = 4; h = 2 };
  rows = letter 100 ∷ letter 101 ∷ letter 102 ∷ blank_cell ∷ replicate 4 blank_cell;
  cursor = at 3 0;
  visible = true;
}
cursor_in_the_last_column = refl

-- at 7 by 1 the cursor stands in the last column as it is
no_column_gone : part written (record { w = 7; h = 1 }) ≡ record {
  size = record { w = 7; h = 1 };
  rows = letter 97 ∷ letter 98 ∷ letter 99 ∷ letter 100 ∷ letter 101 ∷ letter 102 ∷ blank_cell ∷ [];
  cursor = at 6 0;
  visible = true;
}
no_column_gone = refl

-- 2 by 2: `ab` and `cd`
abbrev letters : List Glyph
letters = letter 97 ∷ letter 98 ∷ letter 99 ∷ letter 100 ∷ []

abbrev two : Coord → View
two cursor = record { size = record { w = 2; h = 2 }; rows = letters; cursor = cursor; visible = true }

abbrev hidden : Coord → View
hidden cursor = record { size = record { w = 2; h = 2 }; rows = letters; cursor = cursor; visible = false }

-- with the cursor in the last row: at 3 by 1 that row and a space
last_row : part (two (at 0 1)) (record { w = 3; h = 1 }) ≡ record {
  size = record { w = 3; h = 1 };
  rows = letter 99 ∷ letter 100 ∷ blank_cell ∷ [];
  cursor = at 0 0;
  visible = true;
}
last_row = refl

-- at 3 by 3 all of it, with a column and a row of spaces
all_rows : part (two (at 0 1)) (record { w = 3; h = 3 }) ≡ record {
  size = record { w = 3; h = 3 };
  rows = letter 97 ∷ letter 98 ∷ blank_cell ∷ letter 99 ∷ letter 100 ∷ blank_cell ∷ replicate 3 blank_cell;
  cursor = at 0 1;
  visible = true;
}
all_rows = refl

-- a hidden cursor, wherever it stands: from the upper left cell on, with the cursor at 0, 0
upper_left : part (hidden (at 1 1)) (record { w = 1; h = 1 })
    ≡ record { size = record { w = 1; h = 1 }; rows = letter 97 ∷ []; cursor = at 0 0; visible = false }
upper_left = refl

-- the cursor in the lower right cell: at 1 by 1 that cell
lower_right : part (two (at 1 1)) (record { w = 1; h = 1 })
    ≡ record { size = record { w = 1; h = 1 }; rows = letter 100 ∷ []; cursor = at 0 0; visible = true }
lower_right = refl
