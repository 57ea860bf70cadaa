-- Moving cells, and filling what they leave.
use Rattle.std.proofs.Common.{◌≡◌, ℕ, ◌+◌, ◌-◌, ◌*◌, ◌/◌, ◌%◌, ◌<◌, ◌≤◌, inl, inr, true, false, not, ◌&&◌, ◌||◌, nat_lt, length, get_or, slice_get, Some, sym, ap, ◌∙◌, arith}
use Rattle.std.specs.Prelude.{◌==◌}
use Rattle.std.proofs.lemmas.Bool.{cond-true, cond-false, false_from_ne_true, and_parts, and_from, and_left, and_right, not_from_true, not_from_false, or_cases, eqb-true, ltb-true}
use Rattle.std.proofs.lemmas.Nat.{mul-add-lt}
use Rattle.std.proofs.lemmas.Option.{get_or_from_slice_get}
use Rattle.std.proofs.Math.Nat.{mul-le-mul_right}
use Rattle.con_units.specs.Glyph.{Glyph}
use Rattle.con_grid.specs.Picture.{Picture}
use Rattle.con_grid.specs.Words.Picture.{IsPicture}
use Rattle.con_rects.specs.Rules.{redrawn}
use Rattle.con_rects.specs.Parts.{is_within, has_cells, blank}
use Rattle.con_rects.specs.Moves.{move_rule, free_rule, goes_back, goes_on, ComesFrom}
use Rattle.con_rects.specs.declared.area.Area.{Area}
use Rattle.con_rects.specs.declared.scroll.Shift.{Shift}
use Rattle.con_rects.proofs.AreaLemmas.{IsWithin, within_sides, within_from}
use Rattle.con_rects.proofs.DrawLemmas.{flat, place_again, ChangesIn, IsAreaOf, DoneBefore, DoneFrom, before_skip}
use Rattle.con_rects.proofs.RectLemmas.{flat_at, none_within, rule_same}

-- an area with a cell, within the grid's sides
pub area_some : (p : Picture) (a : Area) → IsPicture p → a.right ≤ p.width → a.bottom ≤ p.height → has_cells a ≡ true → IsAreaOf p a
area_some p a ok right bottom some =
    let both = and_parts (nat_lt a.left a.right) (nat_lt a.top a.bottom) some in
    record { wide = ok.wide; columns = ltb-true a.left a.right both.0; rows = ltb-true a.top a.bottom both.1; right = right; bottom = bottom }

-- moving changes places of the area alone
pub move_only : (p : Picture) (to : Area) (s : Shift) → 0 < p.width → ChangesIn p to (flat p (move_rule p to s))
move_only p to s some = λ j inside out.
    let no : is_within to (j % p.width) (j / p.width) ≡ false = false_from_ne_true _ (λ e. out (within_sides to (j % p.width) (j / p.width) e)) in
    cond-false (is_within to (j % p.width) (j / p.width)) _ _ no ∙ ap (λ k. get_or p.cells k blank) (place_again j p.width some)

-- a place of the area takes the cell that the shift says
pub move_cell : (p : Picture) (to : Area) (s : Shift) (x y : ℕ) → x < p.width → IsWithin to x y → flat p (move_rule p to s) (y * p.width + x) ≡ get_or p.cells ((y + s.up - s.down) * p.width + (x + s.left - s.right)) blank
move_cell p to s x y x_in i = flat_at p (move_rule p to s) x y x_in ∙ cond-true (is_within to x y) _ _ (within_from to x y i)

-- where a cell comes from
pub comes_in : (p : Picture) (to : Area) (s : Shift) (x y : ℕ) → ComesFrom p to s → IsWithin to x y → (x + s.left - s.right < p.width) × (y + s.up - s.down < p.height)
comes_in p to s x y comes i = (omega (arith, comes.from_left, comes.to_right, i.from_left, i.to_right), omega (arith, comes.from_top, comes.to_bottom, i.from_top, i.to_bottom))

pub comes_back : (p : Picture) (s : Shift) (x y : ℕ) → goes_back s ≡ true → x < p.width → y * p.width + x ≤ (y + s.up - s.down) * p.width + (x + s.left - s.right)
comes_back p s x y back x_in =
    let both = and_parts (s.down == 0) (nat_lt 0 s.up || (s.right == 0)) back in
    let flat_down : s.down ≡ 0 = eqb-true s.down 0 both.0 in
    elim (or_cases (nat_lt 0 s.up) (s.right == 0) both.1) [
      | inl up ↦ let above : 0 < s.up = ltb-true 0 s.up up in let r : y + 1 ≤ y + s.up - s.down = omega arith in omega (arith, mul-le-mul_right p.width r)
      | inr same ↦ let none : s.right ≡ 0 = eqb-true s.right 0 same in let r : y ≤ y + s.up - s.down = omega arith in omega (arith, mul-le-mul_right p.width r)
    ]

pub comes_on : (p : Picture) (to : Area) (s : Shift) (x y : ℕ) → goes_on s ≡ true → ComesFrom p to s → IsWithin to x y → (y + s.up - s.down) * p.width + (x + s.left - s.right) < y * p.width + x + 1
comes_on p to s x y on comes i =
    let in_x : x + s.left - s.right < p.width = (comes_in p to s x y comes i).0 in
    let low : s.down ≤ y + s.up = omega (arith, comes.from_top, i.from_top) in
    let both = and_parts (s.up == 0) (nat_lt 0 s.down || (s.left == 0)) on in
    let flat_up : s.up ≡ 0 = eqb-true s.up 0 both.0 in
    elim (or_cases (nat_lt 0 s.down) (s.left == 0) both.1) [
      | inl down ↦ let below : 0 < s.down = ltb-true 0 s.down down in let r : (y + s.up - s.down) + 1 ≤ y = omega arith in omega (arith, mul-le-mul_right p.width r)
      | inr same ↦ let none : s.left ≡ 0 = eqb-true s.left 0 same in let r : y + s.up - s.down ≤ y = omega arith in omega (arith, mul-le-mul_right p.width r)
    ]

-- filling changes places of the area alone
pub free_only : (p : Picture) (from to : Area) (fill : Glyph) → 0 < p.width → ChangesIn p from (flat p (free_rule p from to fill))
free_only p from to fill some = λ j inside out.
    let x : ℕ = j % p.width in
    let y : ℕ = j / p.width in
    let no : is_within from x y && not (is_within to x y) ≡ false = and_left (is_within from x y) (not (is_within to x y)) (false_from_ne_true _ (λ e. out (within_sides from x y e))) in
    cond-false (is_within from x y && not (is_within to x y)) _ _ no ∙ ap (λ k. get_or p.cells k blank) (place_again j p.width some)

pub free_fill : (p : Picture) (from to : Area) (fill : Glyph) (x y : ℕ) → x < p.width → IsWithin from x y → is_within to x y ≡ false → flat p (free_rule p from to fill) (y * p.width + x) ≡ fill
free_fill p from to fill x y x_in i out =
    flat_at p (free_rule p from to fill) x y x_in ∙ cond-true (is_within from x y && not (is_within to x y)) _ _ (and_from _ _ (within_from from x y i) (not_from_false (is_within to x y) out))

pub free_stays : (p : Picture) (from to : Area) (fill : Glyph) (x y : ℕ) → x < p.width → is_within to x y ≡ true → flat p (free_rule p from to fill) (y * p.width + x) ≡ get_or p.cells (y * p.width + x) blank
free_stays p from to fill x y x_in inside =
    flat_at p (free_rule p from to fill) x y x_in
    ∙ cond-false (is_within from x y && not (is_within to x y)) _ _ (and_right (is_within from x y) (not (is_within to x y)) (not_from_true (is_within to x y) inside))

-- where there is no cell, nothing changes
pub move_none : (p : Picture) (to : Area) (s : Shift) → IsPicture p → has_cells to ≡ false → p ≡ redrawn p (move_rule p to s)
move_none p to s ok none = rule_same p (move_rule p to s) ok (λ j h. move_only p to s ok.wide j h (none_within to (j % p.width) (j / p.width) none))

pub free_none : (p : Picture) (from to : Area) (fill : Glyph) → IsPicture p → has_cells from ≡ false → p ≡ redrawn p (free_rule p from to fill)
free_none p from to fill ok none = rule_same p (free_rule p from to fill) ok (λ j h. free_only p from to fill ok.wide j h (none_within from (j % p.width) (j / p.width) none))

-- a cell that comes from further on is still as it was
pub back_cell : (old mid : Picture) (to : Area) (s : Shift) (x y width : ℕ) (cell : Glyph) → DoneBefore old mid (flat old (move_rule old to s)) (y * old.width + x) → goes_back s ≡ true → x < old.width → IsWithin to x y → width ≡ old.width
    → slice_get mid.cells ((y + s.up - s.down) * width + (x + s.left - s.right)) ≡ Some cell → cell ≡ flat old (move_rule old to s) (y * old.width + x)
back_cell old mid to s x y width cell before back x_in i same_width read =
    let k : ℕ = (y + s.up - s.down) * old.width + (x + s.left - s.right) in
    let read' : slice_get mid.cells k ≡ Some cell = ap (λ w. slice_get mid.cells ((y + s.up - s.down) * w + (x + s.left - s.right))) (sym same_width) ∙ read in
    sym (move_cell old to s x y x_in i ∙ sym (before.left k (comes_back old s x y back x_in)) ∙ get_or_from_slice_get mid.cells k cell blank read')

pub on_cell : (old mid : Picture) (to : Area) (s : Shift) (x y width : ℕ) (cell : Glyph) → DoneFrom old mid (flat old (move_rule old to s)) (y * old.width + (x + 1)) → goes_on s ≡ true → ComesFrom old to s → x < old.width → IsWithin to x y → width ≡ old.width
    → slice_get mid.cells ((y + s.up - s.down) * width + (x + s.left - s.right)) ≡ Some cell → cell ≡ flat old (move_rule old to s) (y * old.width + x)
on_cell old mid to s x y width cell after on comes x_in i same_width read =
    let k : ℕ = (y + s.up - s.down) * old.width + (x + s.left - s.right) in
    let read' : slice_get mid.cells k ≡ Some cell = ap (λ w. slice_get mid.cells ((y + s.up - s.down) * w + (x + s.left - s.right))) (sym same_width) ∙ read in
    sym (move_cell old to s x y x_in i ∙ sym (after.left k (omega (arith, comes_on old to s x y on comes i))) ∙ get_or_from_slice_get mid.cells k cell blank read')

-- a place that is not filled is passed over
pub free_skip : (old mid : Picture) (from to : Area) (fill : Glyph) (x y : ℕ) → DoneBefore old mid (flat old (free_rule old from to fill)) (y * old.width + x) → x < old.width → is_within to x y ≡ true → DoneBefore old mid (flat old (free_rule old from to fill)) (y * old.width + (x + 1))
free_skip old mid from to fill x y before x_in inside =
    before_skip old mid (flat old (free_rule old from to fill)) (y * old.width + x) (y * old.width + (x + 1)) before (omega arith)
    (λ j low high.
    let here : j ≡ y * old.width + x = omega (arith, low, high) in
    rw here (free_stays old from to fill x y x_in inside))

-- the place that a cell comes from is in the list of cells
pub comes_inside : (old mid : Picture) (to : Area) (s : Shift) (x y width : ℕ) → ComesFrom old to s → IsWithin to x y → width ≡ old.width → length mid.cells ≡ old.width * old.height → (y + s.up - s.down) * width + (x + s.left - s.right) < length mid.cells
comes_inside old mid to s x y width comes i same_width long =
    let at = comes_in old to s x y comes i in
    rw (same_width, long) (mul-add-lt (y + s.up - s.down) old.width (x + s.left - s.right) old.height at.1 at.0)
