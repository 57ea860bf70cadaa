-- Colours, numbers and cells, by hand.
use Rattle.std.specs.Prelude.{ℕ, List, [], ◌∷◌, map}
use Rattle.con_units.specs.Attr.{plain}
use Rattle.con_units.specs.Glyph.{Glyph, cell_of}
use Rattle.con_grid.specs.Picture.{filled, lifted, part_lifted, part_lowered}
use Rattle.con_grid.specs.Words.Picture.{units_put}

-- the colours that stand for the indices 16 to 255: for each red of 0 to 5 and each green a line by blue, then the greys
abbrev pub nearest : List ℕ
nearest =
    0 ∷ 0 ∷ 0 ∷ 1 ∷ 1 ∷ 9 ∷ 0 ∷ 0 ∷ 0 ∷ 1 ∷ 1 ∷ 9 ∷ 0 ∷ 0 ∷ 0 ∷ 1 ∷ 1 ∷ 9 ∷ 2 ∷ 2 ∷ 2 ∷ 3 ∷ 3 ∷ 11 ∷ 2 ∷ 2 ∷ 2 ∷ 3 ∷ 3 ∷ 11 ∷
    10 ∷ 10 ∷ 10 ∷ 11 ∷ 11 ∷ 11 ∷ 0 ∷ 0 ∷ 0 ∷ 1 ∷ 1 ∷ 9 ∷ 0 ∷ 0 ∷ 0 ∷ 1 ∷ 1 ∷ 9 ∷ 0 ∷ 0 ∷ 0 ∷ 1 ∷ 1 ∷ 9 ∷ 2 ∷ 2 ∷ 2 ∷ 3 ∷ 3 ∷ 11 ∷
    2 ∷ 2 ∷ 2 ∷ 3 ∷ 3 ∷ 11 ∷ 10 ∷ 10 ∷ 10 ∷ 11 ∷ 11 ∷ 11 ∷ 0 ∷ 0 ∷ 0 ∷ 1 ∷ 1 ∷ 9 ∷ 0 ∷ 0 ∷ 0 ∷ 1 ∷ 1 ∷ 9 ∷ 0 ∷ 0 ∷ 0 ∷ 1 ∷ 1 ∷ 9 ∷
    2 ∷ 2 ∷ 2 ∷ 3 ∷ 3 ∷ 11 ∷ 2 ∷ 2 ∷ 2 ∷ 3 ∷ 3 ∷ 11 ∷ 10 ∷ 10 ∷ 10 ∷ 11 ∷ 11 ∷ 11 ∷ 4 ∷ 4 ∷ 4 ∷ 5 ∷ 5 ∷ 13 ∷ 4 ∷ 4 ∷ 4 ∷ 5 ∷ 5 ∷ 13 ∷
    4 ∷ 4 ∷ 4 ∷ 5 ∷ 5 ∷ 13 ∷ 6 ∷ 6 ∷ 6 ∷ 7 ∷ 7 ∷ 15 ∷ 6 ∷ 6 ∷ 6 ∷ 7 ∷ 7 ∷ 15 ∷ 14 ∷ 14 ∷ 14 ∷ 15 ∷ 15 ∷ 15 ∷ 4 ∷ 4 ∷ 4 ∷ 5 ∷ 5 ∷ 13 ∷
    4 ∷ 4 ∷ 4 ∷ 5 ∷ 5 ∷ 13 ∷ 4 ∷ 4 ∷ 4 ∷ 5 ∷ 5 ∷ 13 ∷ 6 ∷ 6 ∷ 6 ∷ 7 ∷ 7 ∷ 15 ∷ 6 ∷ 6 ∷ 6 ∷ 7 ∷ 7 ∷ 15 ∷ 14 ∷ 14 ∷ 14 ∷ 15 ∷ 15 ∷ 15 ∷
    12 ∷ 12 ∷ 12 ∷ 13 ∷ 13 ∷ 13 ∷ 12 ∷ 12 ∷ 12 ∷ 13 ∷ 13 ∷ 13 ∷ 12 ∷ 12 ∷ 12 ∷ 13 ∷ 13 ∷ 13 ∷ 14 ∷ 14 ∷ 14 ∷ 15 ∷ 15 ∷ 15 ∷ 14 ∷ 14 ∷ 14 ∷ 15 ∷ 15 ∷ 15 ∷
    14 ∷ 14 ∷ 14 ∷ 15 ∷ 15 ∷ 15 ∷ 0 ∷ 0 ∷ 0 ∷ 0 ∷ 0 ∷ 0 ∷ 8 ∷ 8 ∷ 8 ∷ 8 ∷ 8 ∷ 8 ∷ 7 ∷ 7 ∷ 7 ∷ 7 ∷ 7 ∷ 7 ∷ 15 ∷ 15 ∷ 15 ∷ 15 ∷ 15 ∷ 15 ∷ []

abbrev pub letter : ℕ → Glyph
letter u = cell_of u (plain 7)

abbrev pub units : List Glyph → List ℕ
units cells = map (λ c. c.unit) cells

-- three columns and three rows: abc, def, and spaces, of which a row is scrolled
abbrev pub scrolled : List Glyph
scrolled = lifted (map letter (0x61 ∷ 0x62 ∷ 0x63 ∷ 0x64 ∷ 0x65 ∷ 0x66 ∷ 0x20 ∷ 0x20 ∷ 0x20 ∷ [])) 3 (letter 0x3D)

-- changes on both sides of the place 6, where the block ends then
abbrev pub changed_across : List Glyph
changed_across = part_lowered (part_lifted (units_put (filled scrolled 5 8 (letter 0x2A)) 4 (0x78 ∷ 0x79 ∷ 0x7A ∷ []) (plain 7)) 5 8 1 (letter 0x2E)) 4 8 1 (letter 0x2D)

-- most of nine cells move
abbrev pub most_moved : List Glyph
most_moved = part_lifted (part_lowered changed_across 3 9 1 (letter 0x2B)) 0 7 2 (letter 0x2F)
