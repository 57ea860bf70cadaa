-- Cells that are read have plain shades.
use Rattle.std.proofs.Common.{refl, ℕ, zero, suc, ◌+◌, ◌*◌, List, [], ◌∷◌, ◌++◌, map, take, drop}
use Rattle.std.specs.Prelude.{flat_map}
use Rattle.std.specs.List.{range_with_len}
use Rattle.con_units.specs.Glyph.{Glyph, plain_cell}
use Rattle.con_units.specs.Natural.{natural}
use Rattle.con_units.specs.View.{row_part}
use Rattle.con_units.specs.declared.place.Rect.{Rect}
use Rattle.con_grid.specs.Picture.{Picture}
use Rattle.con_rects.specs.Area.{used_rect, span}
use Rattle.con_rects.specs.Rules.{rect_cells}
use Rattle.con_forms.specs.Formed.{ArePlain}

both_plain : (xs ys : List Glyph) → ArePlain xs → ArePlain ys → ArePlain (xs ++ ys)
both_plain [] ys p q = q
both_plain (x ∷ xs) ys p q = (p.0, p.1, both_plain xs ys p.2 q)

take_plain : (n : ℕ) (xs : List Glyph) → ArePlain xs → ArePlain (take n xs)
take_plain zero xs p = tt
take_plain (suc n) [] p = tt
take_plain (suc n) (x ∷ xs) p = (p.0, p.1, take_plain n xs p.2)

drop_plain : (n : ℕ) (xs : List Glyph) → ArePlain xs → ArePlain (drop n xs)
drop_plain zero xs p = p
drop_plain (suc n) [] p = tt
drop_plain (suc n) (x ∷ xs) p = drop_plain n xs p.2

read_plain : (xs : List Glyph) → ArePlain (map plain_cell xs)
read_plain [] = tt
read_plain (x ∷ xs) = (refl, refl, read_plain xs)

rows_plain : (width left wide : ℕ) (cells : List Glyph) (ys : List ℕ) → ArePlain cells → ArePlain (flat_map (λ y. row_part width cells left wide y) ys)
rows_plain width left wide cells [] k = tt
rows_plain width left wide cells (y ∷ ys) k = both_plain (row_part width cells left wide y) (flat_map (λ z. row_part width cells left wide z) ys)
    (take_plain wide (drop (y * width + left) cells) (drop_plain (y * width + left) cells k)) (rows_plain width left wide cells ys k)

pub rect_plain : (p : Picture) (r : Rect) → ArePlain (rect_cells p r)
unfolding rect_cells
rect_plain p r =
    let used = used_rect r p.width p.height in
    rows_plain p.width (natural used.left) (span used.left used.right) (map plain_cell p.cells) (range_with_len (natural used.top) (span used.top used.bottom)) (read_plain p.cells)
