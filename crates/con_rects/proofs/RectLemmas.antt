-- Writing over a rectangle.
use Rattle.std.proofs.Common.{◌≡◌, ℕ, ℤ, pos, negsuc, ◌-ℤ◌, ◌≤ℤ◌, ◌+◌, ◌*◌, ◌/◌, ◌%◌, ◌<◌, true, false, nat_lt, cond, List, get_or, refl, sym, ap, subst, ◌∙◌, arith}
use Rattle.std.specs.Prelude.{int_le}
use Rattle.std.proofs.lemmas.Int.{ints}
use Rattle.std.proofs.lemmas.Bool.{cond-true, cond-false, false_from_ne_true, and_parts, and_from, both_ways, lt-ltb, ltb-true}
use Rattle.std.proofs.lemmas.Nat.{mul-add-lt}
use Rattle.con_units.specs.Glyph.{Glyph}
use Rattle.con_units.specs.Natural.{natural}
use Rattle.con_units.specs.declared.place.Rect.{Rect}
use Rattle.con_grid.specs.Picture.{Picture}
use Rattle.con_grid.specs.Words.Picture.{IsPicture}
use Rattle.con_rects.specs.Area.{covers, cell_count}
use Rattle.con_units.specs.Glyph.{plain_cell}
use Rattle.con_rects.specs.Rules.{rect_written, redrawn}
use Rattle.con_rects.specs.Parts.{wide, tall, area_in, has_cells, is_within, blank, rect_rule}
use Rattle.con_rects.specs.declared.area.Area.{Area}
use Rattle.con_rects.proofs.AreaLemmas.{IsWithin, within_sides, within_from, covers_is, area_only}
use Rattle.con_rects.proofs.DrawLemmas.{flat, place_again, column_is, row_is, ChangesIn, IsAreaOf, redrawn_from, row_below}

along_lt : (a b : ℤ) (k : ℕ) → a ≤ℤ pos k → pos k ≤ℤ b → natural (pos k -ℤ a) < cond (int_le a b) (natural (b -ℤ a) + 1) 0
along_lt (pos m) (pos n) k low high = grind (arith, ints)
along_lt (negsuc m) (pos n) k low high = grind (arith, ints)
along_lt a (negsuc n) k low high = absurd (omega (arith, ints))

-- a place that is in both has its cell among the given ones
pub given_in : (r : Rect) (w h x y : ℕ) → IsWithin (area_in r w h) x y → natural (pos y -ℤ r.top) * wide r + natural (pos x -ℤ r.left) < cell_count r
given_in r w h x y i =
    let in_r = area_only r w h x y i in
    mul-add-lt (natural (pos y -ℤ r.top)) (wide r) (natural (pos x -ℤ r.left)) (tall r)
    (along_lt r.top r.bottom y in_r.from_top in_r.to_bottom) (along_lt r.left r.right x in_r.from_left in_r.to_right)

-- the rule at a place of the list of cells is that of its column and row
pub flat_at : (p : Picture) (rule : ℕ → ℕ → Glyph) (x y : ℕ) → x < p.width → flat p rule (y * p.width + x) ≡ rule x y
flat_at p rule x y x_in = ap (λ a. rule a ((y * p.width + x) / p.width)) (column_is p.width x y x_in) ∙ ap (rule x) (row_is p.width x y x_in)

pub column_in : (w j : ℕ) → 0 < w → j % w < w
column_in w j some = omega arith

pub row_in : (w h j : ℕ) → 0 < w → j < w * h → j / w < h
row_in w h j some inside = row_below w h j some (omega arith)

-- outside the rectangle nothing changes
pub rect_only : (p : Picture) (r : Rect) (a : Area) (cells : List Glyph) → 0 < p.width → a ≡ area_in r p.width p.height → ChangesIn p a (flat p (rect_rule p r cells))
rect_only p r a cells some a_is = λ j inside out'.
    let x : ℕ = j % p.width in
    let y : ℕ = j / p.width in
    let out : IsWithin (area_in r p.width p.height) x y → ⊥ = λ i. out' (subst (λ (b : Area). IsWithin b x y) (sym a_is) i) in
    let no : is_within (area_in r p.width p.height) x y ≡ false = false_from_ne_true _ (λ e. out (within_sides (area_in r p.width p.height) x y e)) in
    cond-false (covers r (pos x) (pos y)) _ _ (covers_is r p.width p.height x y (column_in p.width j some) (row_in p.width p.height j some inside) ∙ no) ∙ ap (λ k. get_or p.cells k blank) (place_again j p.width some)

-- inside it a cell becomes the given one
pub rect_cell : (p : Picture) (r : Rect) (cells : List Glyph) (x y : ℕ) → x < p.width → y < p.height → IsWithin (area_in r p.width p.height) x y
    → plain_cell (get_or cells (natural (pos y -ℤ r.top) * wide r + natural (pos x -ℤ r.left)) blank) ≡ flat p (rect_rule p r cells) (y * p.width + x)
rect_cell p r cells x y x_in y_in i =
    sym (flat_at p (rect_rule p r cells) x y x_in ∙ cond-true (covers r (pos x) (pos y)) _ _ (covers_is r p.width p.height x y x_in y_in ∙ within_from (area_in r p.width p.height) x y i))

-- the part of a rectangle, with a cell, is an area of the grid
pub area_is : (p : Picture) (r : Rect) (a : Area) → IsPicture p → a ≡ area_in r p.width p.height → has_cells a ≡ true → IsAreaOf p a
area_is p r a ok is some =
    let both = and_parts (nat_lt a.left a.right) (nat_lt a.top a.bottom) some in
    record {
      wide = ok.wide;
      columns = ltb-true a.left a.right both.0;
      rows = ltb-true a.top a.bottom both.1;
      right = omega (arith, ap (λ (b : Area). b.right) is);
      bottom = omega (arith, ap (λ (b : Area). b.bottom) is);
    }

-- a rule that changes nowhere leaves the grid
pub rule_same : (p : Picture) (rule : ℕ → ℕ → Glyph) → IsPicture p → ((j : ℕ) → j < p.width * p.height → flat p rule j ≡ get_or p.cells j blank) → p ≡ redrawn p rule
rule_same p rule ok same = redrawn_from p p rule refl ok (λ k h. sym (same k h))

-- an area without a cell has no place
pub none_within : (a : Area) (x y : ℕ) → has_cells a ≡ false → IsWithin a x y → ⊥
none_within a x y none i =
    let yes : has_cells a ≡ true = and_from (nat_lt a.left a.right) (nat_lt a.top a.bottom) (lt-ltb a.left a.right (omega (arith, i.from_left, i.to_right))) (lt-ltb a.top a.bottom (omega (arith, i.from_top, i.to_bottom))) in
    both_ways (has_cells a) none yes

-- where a rectangle has no cell of the grid, nothing changes
pub rect_none : (p : Picture) (r : Rect) (a : Area) (cells : List Glyph) → IsPicture p → a ≡ area_in r p.width p.height → has_cells a ≡ false → p ≡ rect_written p r cells
unfolding rect_written
rect_none p r a cells ok is none =
    rule_same p (rect_rule p r cells) ok (λ j h. rect_only p r a cells ok.wide is j h (none_within a (j % p.width) (j / p.width) none))

pub rect_written_is : (p : Picture) (r : Rect) (cells : List Glyph) → redrawn p (rect_rule p r cells) ≡ rect_written p r cells
unfolding rect_written
rect_written_is p r cells = refl
