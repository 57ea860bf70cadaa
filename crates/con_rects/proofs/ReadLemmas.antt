-- Reading rows.
use Rattle.std.proofs.Common.{◌≡◌, ℕ, suc, zero, ◌&&◌, map, ap₂, ◌+◌, ◌-◌, ◌*◌, ◌<◌, ◌≤◌, inl, inr, nat_lt, false, Some, List, [], ◌∷◌, ◌++◌, length, take, drop, get_or, slice_get, refl, sym, ap, ◌∙◌, arith, append_assoc, length-append, length-drop, append-nil}
use Rattle.std.proofs.lemmas.List.{take_more, get_or-drop, length-take, length-take-le, length-map}
use Rattle.std.specs.Option.{option_map}
use Rattle.std.proofs.lemmas.Option.{get_or_from_slice_get, slice_get-map}
use Rattle.std.proofs.lemmas.Nat.{mul-add-lt}
use Rattle.std.proofs.Math.Nat.{mul-le-mul_right}
use Rattle.con_units.specs.Glyph.{Glyph, plain_cell}
use Rattle.con_units.specs.View.{row_part}
use Rattle.con_grid.specs.Picture.{Picture}
use Rattle.con_grid.specs.Words.Picture.{IsPicture}
use Rattle.std.proofs.lemmas.Bool.{and_cases, and_parts, ltb-false, ltb-true, cond_both}
use Rattle.std.specs.Prelude.{flat_map}
use Rattle.std.specs.List.{range_with_len}
use Rattle.con_units.specs.Natural.{natural}
use Rattle.con_rects.proofs.UsedLemmas.{side_is, used_rect_is}
use Rattle.con_units.specs.declared.place.Rect.{Rect}
use Rattle.con_rects.specs.Rules.{rect_cells}
use Rattle.con_rects.specs.Parts.{wide, tall, area_in, has_cells, rect_of, blank, rows_part, area_cells, as_read}
use Rattle.con_rects.specs.declared.area.Area.{Area}

-- a grid as it is read has its size
pub read_picture : (p : Picture) → IsPicture p → IsPicture (as_read p)
read_picture p ok = record { wide = ok.wide; tall = ok.tall; at_most_wide = ok.at_most_wide; at_most_tall = ok.at_most_tall; cells = length-map p.cells plain_cell ∙ ok.cells }

pub read_at : (p : Picture) (at : ℕ) (was : Glyph) → slice_get p.cells at ≡ Some was → slice_get (as_read p).cells at ≡ Some (plain_cell was)
read_at p at was h = slice_get-map plain_cell p.cells at ∙ ap (option_map plain_cell) h

-- a row's cells are in the list of cells
row_inside : (p : Picture) (y : ℕ) → IsPicture p → y < p.height → y * p.width + p.width ≤ length p.cells
row_inside p y ok h = let le : y + 1 ≤ p.height = omega arith in omega (arith, mul-le-mul_right p.width le, ok.cells)

length-row_part : (p : Picture) (left right y : ℕ) → IsPicture p → left ≤ right → right ≤ p.width → y < p.height → length (row_part p.width p.cells left (right - left) y) ≡ right - left
length-row_part p left right y ok order wide tall =
    length-take-le (right - left) (drop (y * p.width + left) p.cells) (rw (length-drop (y * p.width + left) p.cells) (omega (arith, row_inside p y ok tall)))

pub length-rows_part : (p : Picture) (left right y n : ℕ) → IsPicture p → left ≤ right → right ≤ p.width → y + n ≤ p.height → length (rows_part p left right y n) ≡ n * (right - left)
length-rows_part p left right y zero ok order wide tall = omega arith
length-rows_part p left right y (suc n) ok order wide tall =
    length-append (rows_part p left right y n) (row_part p.width p.cells left (right - left) (y + n))
    ∙ omega (arith, length-rows_part p left right y n ok order wide (omega arith), length-row_part p left right (y + n) ok order wide (omega arith))

-- what a loop over the rows of an area and their columns has read
abbrev pub read_so : Picture → ℕ → ℕ → ℕ → ℕ → ℕ → List Glyph
read_so p left right top x y = rows_part p left right top (y - top) ++ take (x - left) (drop (y * p.width + left) p.cells)

pub read_more : (p : Picture) (left right top x y : ℕ) (cell : Glyph) (out now : List Glyph) → IsPicture p → left ≤ x → x < right → right ≤ p.width → y < p.height → slice_get p.cells (y * p.width + x) ≡ Some cell
    → out ≡ read_so p left right top x y → now ≡ out ++ cell ∷ [] → now ≡ read_so p left right top (x + 1) y
read_more p left right top x y cell out now ok low high wide tall read before is =
    let part : List Glyph = drop (y * p.width + left) p.cells in
    let within : x - left < length part = rw (length-drop (y * p.width + left) p.cells) (omega (arith, row_inside p y ok tall)) in
    let got : get_or part (x - left) blank ≡ cell = get_or-drop (y * p.width + left) p.cells (x - left) blank ∙ ap (λ k. get_or p.cells k blank) (omega arith) ∙ get_or_from_slice_get p.cells (y * p.width + x) cell blank read in
    let more : take (x + 1 - left) part ≡ take (x - left) part ++ cell ∷ [] = ap (λ n. take n part) (omega arith) ∙ take_more part (x - left) blank within ∙ ap (λ g. take (x - left) part ++ g ∷ []) got in
    is ∙ ap (λ (c : List Glyph). c ++ cell ∷ []) before ∙ append_assoc (rows_part p left right top (y - top)) (take (x - left) part) (cell ∷ []) ∙ ap (λ (c : List Glyph). rows_part p left right top (y - top) ++ c) (sym more)

-- at a row's start, and at its end
pub read_row : (p : Picture) (left right top y : ℕ) → read_so p left right top left y ≡ rows_part p left right top (y - top)
read_row p left right top y =
    let none : left - left ≡ 0 = omega arith in
    ap (λ n. rows_part p left right top (y - top) ++ take n (drop (y * p.width + left) p.cells)) none ∙ append-nil (rows_part p left right top (y - top))

pub read_next : (p : Picture) (left right top y : ℕ) → top ≤ y → read_so p left right top right y ≡ rows_part p left right top (y + 1 - top)
read_next p left right top y low =
    let next : y + 1 - top ≡ suc (y - top) = omega arith in
    let here : top + (y - top) ≡ y = omega arith in
    rw next (ap (λ k. rows_part p left right top (y - top) ++ row_part p.width p.cells left (right - left) k) (sym here))

-- the capacity suffices for one more
pub read_room : (p : Picture) (left right top bottom x y : ℕ) → IsPicture p → left ≤ x → x < right → right ≤ p.width → top ≤ y → y < bottom → bottom ≤ p.height → length (read_so p left right top x y) < (right - left) * (bottom - top)
read_room p left right top bottom x y ok low high wide above below tall =
    let rows : ℕ = y - top in
    let e : length (rows_part p left right top rows) ≡ rows * (right - left) = length-rows_part p left right top rows ok (omega arith) wide (omega arith) in
    let part : List Glyph = drop (y * p.width + left) p.cells in
    let f : length (take (x - left) part) ≤ x - left = omega (arith, length-take (x - left) part) in
    let g : rows * (right - left) + (x - left) < (right - left) * (bottom - top) = mul-add-lt rows (right - left) (x - left) (bottom - top) (omega arith) (omega arith) in
    omega (arith, length-append (rows_part p left right top rows) (take (x - left) part), e, f, g)

-- an area without a cell gives none
no_columns : (p : Picture) (left right y n : ℕ) → right ≤ left → rows_part p left right y n ≡ []
no_columns p left right y zero h = refl
no_columns p left right y (suc n) h =
    let none : right - left ≡ 0 = omega arith in
    ap (λ (c : List Glyph). c ++ row_part p.width p.cells left (right - left) (y + n)) (no_columns p left right y n h) ∙ ap (λ k. take k (drop ((y + n) * p.width + left) p.cells)) none

pub no_cells : (p : Picture) (a : Area) → has_cells a ≡ false → area_cells p a ≡ []
no_cells p a none = elim (and_cases (nat_lt a.left a.right) (nat_lt a.top a.bottom) none) [
  | inl columns ↦ no_columns p a.left a.right a.top (a.bottom - a.top) (ltb-false a.left a.right columns)
  | inr rows ↦
      let no : a.bottom - a.top ≡ 0 = omega (arith, ltb-false a.top a.bottom rows) in
      ap (λ n. rows_part p a.left a.right a.top n) no
]

-- rows one by one, and as a list of rows
flat_more : (f : ℕ → List Glyph) (a n : ℕ) → flat_map f (range_with_len a (suc n)) ≡ flat_map f (range_with_len a n) ++ f (a + n)
flat_more f a zero = append-nil (f a) ∙ ap f (omega arith)
flat_more f a (suc n) =
    ap (λ (c : List Glyph). f a ++ c) (flat_more f (a + 1) n) ∙ sym (append_assoc (f a) (flat_map f (range_with_len (a + 1) n)) (f (a + 1 + n)))
    ∙ ap (λ k. (f a ++ flat_map f (range_with_len (a + 1) n)) ++ f k) (omega arith)

rows_flat : (p : Picture) (left right y n : ℕ) → rows_part p left right y n ≡ flat_map (λ k. row_part p.width p.cells left (right - left) k) (range_with_len y n)
rows_flat p left right y zero = refl
rows_flat p left right y (suc n) =
    ap (λ (c : List Glyph). c ++ row_part p.width p.cells left (right - left) (y + n)) (rows_flat p left right y n)
    ∙ sym (flat_more (λ k. row_part p.width p.cells left (right - left) k) y n)

abbrev rows_in : Picture → Rect → List Glyph
rows_in p u = flat_map (λ y. row_part p.width (map plain_cell p.cells) (natural u.left) (wide u) y) (range_with_len (natural u.top) (tall u))

area_rows : (p : Picture) (a : Area) → area_cells (as_read p) a ≡ rows_in p (rect_of a)
area_rows p a =
    cond_both (nat_lt a.left a.right && nat_lt a.top a.bottom) _ _ (λ (u : Rect). area_cells (as_read p) a ≡ rows_in p u)
    (λ e. let both = and_parts (nat_lt a.left a.right) (nat_lt a.top a.bottom) e in
    rows_flat (as_read p) a.left a.right a.top (a.bottom - a.top)
    ∙ ap₂ (λ w n. flat_map (λ y. row_part p.width (map plain_cell p.cells) a.left w y) (range_with_len a.top n))
    (sym (side_is a.left a.right (ltb-true a.left a.right both.0))) (sym (side_is a.top a.bottom (ltb-true a.top a.bottom both.1))))
    (λ e. no_cells (as_read p) a e)

pub rect_cells_is : (p : Picture) (r : Rect) → area_cells (as_read p) (area_in r p.width p.height) ≡ rect_cells p r
unfolding rect_cells
rect_cells_is p r = area_rows p (area_in r p.width p.height) ∙ ap (rows_in p) (sym (used_rect_is r p.width p.height))
