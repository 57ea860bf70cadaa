-- A scroll in natural numbers is the scroll in whole ones.
use Rattle.std.proofs.Common.{◌≡◌, ℕ, ℤ, pos, negsuc, ◌+ℤ◌, ◌-ℤ◌, ◌+◌, ◌-◌, ◌*◌, ◌/◌, ◌%◌, ◌<◌, ◌≤◌, Bool, true, false, not, ◌&&◌, cond, Some, None, Option, refl, sym, ap, ap₂, subst, ◌∙◌, arith}
use Rattle.std.proofs.lemmas.Int.{ints}
use Rattle.std.proofs.lemmas.Bool.{and_parts, and_from}
use Rattle.std.proofs.lemmas.Nat.{mul-add-lt}
use Rattle.con_units.specs.Glyph.{Glyph}
use Rattle.con_units.specs.Natural.{natural}
use Rattle.con_units.specs.Rect.{IsIn}
use Rattle.con_units.specs.declared.place.Coord.{Coord}
use Rattle.con_units.specs.declared.place.Rect.{Rect}
use Rattle.con_grid.specs.Picture.{Picture}
use Rattle.con_grid.specs.Words.Picture.{IsPicture}
use Rattle.con_rects.specs.Area.{covers, used_rect}
use Rattle.con_rects.specs.Rules.{cell_at, redrawn}
use Rattle.con_rects.specs.Scroll.{scrolled}
use Rattle.con_rects.specs.Parts.{area_in, is_within, whole, may_change, in_source, scroll_rule}
use Rattle.con_rects.specs.Moves.{shift_to, clip_area, common, shifted, move_rule, free_rule}
use Rattle.con_rects.specs.declared.area.Area.{Area}
use Rattle.con_rects.specs.declared.scroll.Shift.{Shift}
use Rattle.con_rects.proofs.AreaLemmas.{IsWithin, within_sides, within_from, covers_is, area_has, area_only, whole_has, whole_only, IsPlace}
use Rattle.con_rects.proofs.UsedLemmas.{same_tests, covers_in, covers_from, used_covers}
use Rattle.con_rects.proofs.DrawLemmas.{flat, redrawn_same, get_or-redrawn}
use Rattle.con_rects.proofs.RectLemmas.{row_in, column_in, flat_at}

-- a difference is how far it is up without how far it is down
natural_both : (a b : ℤ) → pos (natural (a -ℤ b)) +ℤ b ≡ pos (natural (b -ℤ a)) +ℤ a
natural_both (pos m) (pos n) = grind (arith, ints)
natural_both (pos m) (negsuc n) = grind (arith, ints)
natural_both (negsuc m) (pos n) = grind (arith, ints)
natural_both (negsuc m) (negsuc n) = grind (arith, ints)

back_from : (x a b p n : ℤ) → p +ℤ b ≡ n +ℤ a → (x -ℤ (a -ℤ b)) +ℤ p ≡ x +ℤ n
back_from x a b p n h = omega (arith, ints)

-- going back from a place by the way from b to a
back_by : (x a b : ℤ) → (x -ℤ (a -ℤ b)) +ℤ pos (natural (a -ℤ b)) ≡ x +ℤ pos (natural (b -ℤ a))
back_by x a b = back_from x a b (pos (natural (a -ℤ b))) (pos (natural (b -ℤ a))) (natural_both a b)

natural_sum : (z : ℤ) (x r l : ℕ) → z +ℤ pos r ≡ pos x +ℤ pos l → z ≡ pos (natural z) → natural z + r ≡ x + l
natural_sum z x r l h e = omega (arith, ints, h, e)

from_sum : (z : ℤ) (x r l : ℕ) → z +ℤ pos r ≡ pos x +ℤ pos l → r ≤ x + l → z ≡ pos (natural z)
from_sum (pos n) x r l h le = refl
from_sum (negsuc n) x r l h le = absurd (omega (arith, ints, h, le))

-- the place that a cell of (x, y) comes from, and the place (x, y) in the source that was shifted
pub record IsBack (s : Shift) (x y : ℕ) (from_x from_y : ℤ) : Type 0 where
  pub column : from_x +ℤ pos s.right ≡ pos x +ℤ pos s.left
  pub row : from_y +ℤ pos s.down ≡ pos y +ℤ pos s.up

pub is_back : (source : Rect) (dest : Coord) (x y : ℕ) → IsBack (shift_to source dest) x y (pos x -ℤ (dest.x -ℤ source.left)) (pos y -ℤ (dest.y -ℤ source.top))
is_back source dest x y = record { column = back_by (pos x) dest.x source.left; row = back_by (pos y) dest.y source.top }

into_shifted : (r : Rect) (w h : ℕ) (s : Shift) (x y : ℕ) (from_x from_y : ℤ) → IsBack s x y from_x from_y → IsIn r from_x from_y → IsIn (whole w h) from_x from_y → IsWithin (shifted (area_in r w h) s) x y
into_shifted r w h s x y from_x from_y back i j =
    let o : IsPlace w h from_x from_y = whole_only w h from_x from_y j in
    let i' : IsIn r (pos (natural from_x)) (pos (natural from_y)) = rw (o.column, o.row) at i in
    let k : IsWithin (area_in r w h) (natural from_x) (natural from_y) = area_has r w h (natural from_x) (natural from_y) i' o.inside o.above in
    let ex : natural from_x + s.right ≡ x + s.left = natural_sum from_x x s.right s.left back.column o.column in
    let ey : natural from_y + s.down ≡ y + s.up = natural_sum from_y y s.down s.up back.row o.row in
    record { from_left = omega (arith, k.from_left, ex); to_right = omega (arith, k.to_right, ex); from_top = omega (arith, k.from_top, ey); to_bottom = omega (arith, k.to_bottom, ey) }

-- the way back from a place of the shifted source
pub record Origin (r : Rect) (w h : ℕ) (s : Shift) (x y : ℕ) (from_x from_y : ℤ) : Type 0 where
  pub source : IsIn r from_x from_y
  pub buffer : IsIn (whole w h) from_x from_y
  pub column : natural from_x ≡ x + s.left - s.right
  pub row : natural from_y ≡ y + s.up - s.down

from_shifted : (r : Rect) (w h : ℕ) (s : Shift) (x y : ℕ) (from_x from_y : ℤ) → IsBack s x y from_x from_y → IsWithin (shifted (area_in r w h) s) x y → Origin r w h s x y from_x from_y
from_shifted r w h s x y from_x from_y back i =
    let nx : from_x ≡ pos (natural from_x) = from_sum from_x x s.right s.left back.column (omega (arith, i.from_left, i.to_right)) in
    let ny : from_y ≡ pos (natural from_y) = from_sum from_y y s.down s.up back.row (omega (arith, i.from_top, i.to_bottom)) in
    let ex : natural from_x + s.right ≡ x + s.left = natural_sum from_x x s.right s.left back.column nx in
    let ey : natural from_y + s.down ≡ y + s.up = natural_sum from_y y s.down s.up back.row ny in
    let k : IsWithin (area_in r w h) (natural from_x) (natural from_y) =
    record { from_left = omega (arith, i.from_left, ex); to_right = omega (arith, i.to_right, ex); from_top = omega (arith, i.from_top, ey); to_bottom = omega (arith, i.to_bottom, ey) } in
    let a : IsIn r (pos (natural from_x)) (pos (natural from_y)) = area_only r w h (natural from_x) (natural from_y) k in
    let b : IsIn (whole w h) (pos (natural from_x)) (pos (natural from_y)) = whole_has w h (natural from_x) (natural from_y) (omega (arith, k.to_right)) (omega (arith, k.to_bottom)) in
    record {
      source = subst (λ (z : ℤ). IsIn r from_x z) (sym ny) (subst (λ (z : ℤ). IsIn r z (pos (natural from_y))) (sym nx) a);
      buffer = subst (λ (z : ℤ). IsIn (whole w h) from_x z) (sym ny) (subst (λ (z : ℤ). IsIn (whole w h) z (pos (natural from_y))) (sym nx) b);
      column = omega (arith, ex);
      row = omega (arith, ey);
    }

source_is : (p : Picture) (r : Rect) (s : Shift) (x y : ℕ) (from_x from_y : ℤ) → IsBack s x y from_x from_y → in_source p r from_x from_y ≡ is_within (shifted (area_in r p.width p.height) s) x y
source_is p r s x y from_x from_y back =
    same_tests (in_source p r from_x from_y) (is_within (shifted (area_in r p.width p.height) s) x y)
    (λ e. let both = and_parts (covers r from_x from_y) (covers (whole p.width p.height) from_x from_y) e in
    within_from (shifted (area_in r p.width p.height) s) x y (into_shifted r p.width p.height s x y from_x from_y back (covers_in r from_x from_y both.0) (covers_in (whole p.width p.height) from_x from_y both.1)))
    (λ e. let o = from_shifted r p.width p.height s x y from_x from_y back (within_sides (shifted (area_in r p.width p.height) s) x y e) in
    and_from _ _ (covers_from r from_x from_y o.source) (covers_from (whole p.width p.height) from_x from_y o.buffer))

-- tests on areas in common
common_is : (a b : Area) (x y : ℕ) → is_within (common a b) x y ≡ is_within a x y && is_within b x y
common_is a b x y =
    same_tests (is_within (common a b) x y) (is_within a x y && is_within b x y)
    (λ e. let i = within_sides (common a b) x y e in
    and_from _ _ (within_from a x y (record { from_left = omega (arith, i.from_left); to_right = omega (arith, i.to_right); from_top = omega (arith, i.from_top); to_bottom = omega (arith, i.to_bottom) }))
    (within_from b x y (record { from_left = omega (arith, i.from_left); to_right = omega (arith, i.to_right); from_top = omega (arith, i.from_top); to_bottom = omega (arith, i.to_bottom) })))
    (λ e. let both = and_parts (is_within a x y) (is_within b x y) e in
    let i = within_sides a x y both.0 in
    let j = within_sides b x y both.1 in
    within_from (common a b) x y (record { from_left = omega (arith, i.from_left, j.from_left); to_right = omega (arith, i.to_right, j.to_right); from_top = omega (arith, i.from_top, j.from_top); to_bottom = omega (arith, i.to_bottom, j.to_bottom) }))

may_is : (clip : Option Rect) (w h x y : ℕ) → x < w → y < h → may_change clip (pos x) (pos y) ≡ is_within (clip_area clip w h) x y
may_is None w h x y x_in y_in = sym (within_from (record { left = 0; top = 0; right = w; bottom = h }) x y (record { from_left = omega arith; to_right = x_in; from_top = omega arith; to_bottom = y_in }))
may_is (Some clip) w h x y x_in y_in = covers_is clip w h x y x_in y_in

here_is : (p : Picture) (r : Rect) (x y : ℕ) → x < p.width → y < p.height → in_source p r (pos x) (pos y) ≡ is_within (area_in r p.width p.height) x y
here_is p r x y x_in y_in =
    let inside : covers (whole p.width p.height) (pos x) (pos y) ≡ true = covers_from (whole p.width p.height) (pos x) (pos y) (whole_has p.width p.height x y x_in y_in) in
    let t : (b : Bool) → b && true ≡ b = λ b. elim b as (λ v. v && true ≡ v) [ true ↦ refl | false ↦ refl ] in
    ap (λ b. covers r (pos x) (pos y) && b) inside ∙ t (covers r (pos x) (pos y)) ∙ covers_is r p.width p.height x y x_in y_in

-- both orders of tests give one cell
tests_same : (clip moved here : Bool) (a b fill stay : Glyph) → ((clip && moved) ≡ true → a ≡ b) → cond ((here && clip) && not (moved && clip)) fill (cond (moved && clip) a stay) ≡ cond (not clip) stay (cond moved b (cond here fill stay))
tests_same true true true a b fill stay h = h refl
tests_same true true false a b fill stay h = h refl
tests_same true false true a b fill stay h = refl
tests_same true false false a b fill stay h = refl
tests_same false true true a b fill stay h = refl
tests_same false true false a b fill stay h = refl
tests_same false false true a b fill stay h = refl
tests_same false false false a b fill stay h = refl

tests_equal : (clip moved here clip' moved' here' from to : Bool) (a b fill stay : Glyph) → from ≡ here && clip → to ≡ moved && clip → clip' ≡ clip → moved' ≡ moved → here' ≡ here → ((clip && moved) ≡ true → a ≡ b)
    → cond (from && not to) fill (cond to a stay) ≡ cond (not clip') stay (cond moved' b (cond here' fill stay))
tests_equal clip moved here clip' moved' here' from to a b fill stay f t c m g h = rw (f, t, c, m, g) (tests_same clip moved here a b fill stay h)

redrawn_twice : (p : Picture) (m f g : ℕ → ℕ → Glyph) → ((k : ℕ) → k < p.width * p.height → flat p f k ≡ flat p g k) → redrawn (redrawn p m) f ≡ redrawn p g
unfolding redrawn
redrawn_twice p m f g same = redrawn_same p f g same

-- a cell after cells were moved
moved_cell : (p : Picture) (rule : ℕ → ℕ → Glyph) (x y : ℕ) → x < p.width → y < p.height → cell_at (redrawn p rule) x y ≡ rule x y
unfolding redrawn
moved_cell p rule x y x_in y_in = get_or-redrawn p rule (y * p.width + x) (mul-add-lt y p.width x p.height y_in x_in) ∙ flat_at p rule x y x_in

scroll_cell : (p : Picture) (source : Rect) (clip : Option Rect) (dest : Coord) (fill : Glyph) (x y : ℕ) → x < p.width → y < p.height
    → let s : Shift = shift_to source dest in
    let a : Area = area_in source p.width p.height in
    let limits : Area = clip_area clip p.width p.height in
    let to : Area = common (shifted a s) limits in
    free_rule (redrawn p (move_rule p to s)) (common a limits) to fill x y ≡ scroll_rule p source clip dest fill x y
scroll_cell p source clip dest fill x y x_in y_in =
    let s : Shift = shift_to source dest in
    let a : Area = area_in source p.width p.height in
    let limits : Area = clip_area clip p.width p.height in
    let to : Area = common (shifted a s) limits in
    let from_x : ℤ = pos x -ℤ (dest.x -ℤ source.left) in
    let from_y : ℤ = pos y -ℤ (dest.y -ℤ source.top) in
    let back : IsBack s x y from_x from_y = is_back source dest x y in
    let come : (is_within limits x y && is_within (shifted a s) x y) ≡ true → cell_at p (x + s.left - s.right) (y + s.up - s.down) ≡ cell_at p (natural from_x) (natural from_y) =
    λ e.
    let o = from_shifted source p.width p.height s x y from_x from_y back (within_sides (shifted a s) x y (and_parts (is_within limits x y) (is_within (shifted a s) x y) e).1) in
    sym (ap₂ (cell_at p) o.column o.row) in
    ap (λ g. cond (is_within (common a limits) x y && not (is_within to x y)) fill g) (moved_cell p (move_rule p to s) x y x_in y_in)
    ∙ tests_equal (is_within limits x y) (is_within (shifted a s) x y) (is_within a x y) (may_change clip (pos x) (pos y))
    (covers (used_rect source p.width p.height) from_x from_y) (covers (used_rect source p.width p.height) (pos x) (pos y))
    (is_within (common a limits) x y) (is_within to x y) (cell_at p (x + s.left - s.right) (y + s.up - s.down)) (cell_at p (natural from_x) (natural from_y)) fill (cell_at p x y)
    (common_is a limits x y) (common_is (shifted a s) limits x y) (may_is clip p.width p.height x y x_in y_in)
    (used_covers source p.width p.height from_x from_y ∙ source_is p source s x y from_x from_y back)
    (used_covers source p.width p.height (pos x) (pos y) ∙ here_is p source x y x_in y_in) come

-- cells moved first, and what they leave filled then, are a scroll
pub scrolled_is : (p : Picture) (source : Rect) (clip : Option Rect) (dest : Coord) (fill : Glyph) → IsPicture p
    → let s : Shift = shift_to source dest in
    let a : Area = area_in source p.width p.height in
    let limits : Area = clip_area clip p.width p.height in
    let to : Area = common (shifted a s) limits in
    let mid : Picture = redrawn p (move_rule p to s) in
    redrawn mid (free_rule mid (common a limits) to fill) ≡ scrolled p source clip dest fill
unfolding scrolled
scrolled_is p source clip dest fill ok =
    let s : Shift = shift_to source dest in
    let a : Area = area_in source p.width p.height in
    let limits : Area = clip_area clip p.width p.height in
    let to : Area = common (shifted a s) limits in
    redrawn_twice p (move_rule p to s) (free_rule (redrawn p (move_rule p to s)) (common a limits) to fill) (scroll_rule p source clip dest fill)
    (λ k h. scroll_cell p source clip dest fill (k % p.width) (k / p.width) (column_in p.width k ok.wide) (row_in p.width p.height k ok.wide h))
