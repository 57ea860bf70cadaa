-- Rectangles in whole numbers, and their areas in natural ones.
use Rattle.std.proofs.Common.{◌≡◌, ℕ, ℤ, pos, negsuc, ◌≤ℤ◌, ◌-◌, ◌<◌, ◌≤◌, ◌↔◌, min, true, ◌&&◌, nat_lt, nat_le, refl, sym, ap, ◌∙◌, arith}
use Rattle.std.specs.Prelude.{int_le}
use Rattle.std.proofs.lemmas.Int.{ints}
use Rattle.std.proofs.lemmas.Bool.{and_from, and_parts, le-leb, lt-ltb, leb-true, ltb-true, cond_both}
use Rattle.con_units.specs.Natural.{natural}
use Rattle.con_units.specs.Rect.{IsIn}
use Rattle.con_units.specs.declared.place.Rect.{Rect}
use Rattle.con_rects.specs.Area.{covers}
use Rattle.con_rects.specs.Parts.{past, is_within, area_in, rect_of, whole}
use Rattle.con_rects.specs.declared.area.Area.{Area}

pub natural_le : (z : ℤ) (k : ℕ) → z ≤ℤ pos k → natural z ≤ k
natural_le (pos n) k h = omega (arith, ints)
natural_le (negsuc n) k h = omega (arith, ints)

pub le_from_natural : (z : ℤ) (k : ℕ) → natural z ≤ k → z ≤ℤ pos k
le_from_natural (pos n) k h = omega (arith, ints)
le_from_natural (negsuc n) k h = omega (arith, ints)

pub lt-past : (z : ℤ) (k : ℕ) → pos k ≤ℤ z → k < past z
lt-past (pos n) k h = omega (arith, ints)
lt-past (negsuc n) k h = absurd (omega (arith, ints))

pub le_from_past : (z : ℤ) (k : ℕ) → k < past z → pos k ≤ℤ z
le_from_past (pos n) k h = omega (arith, ints)
le_from_past (negsuc n) k h = absurd (omega (arith, ints))

-- an area's sides round a column and a row
pub record IsWithin (a : Area) (x y : ℕ) : Type 0 where
  pub from_left : a.left ≤ x
  pub to_right : x < a.right
  pub from_top : a.top ≤ y
  pub to_bottom : y < a.bottom

pub within_sides : (a : Area) (x y : ℕ) → is_within a x y ≡ true → IsWithin a x y
within_sides a x y h =
    let all = and_parts (nat_le a.left x && nat_lt x a.right && nat_le a.top y) (nat_lt y a.bottom) h in
    let three = and_parts (nat_le a.left x && nat_lt x a.right) (nat_le a.top y) all.0 in
    let two = and_parts (nat_le a.left x) (nat_lt x a.right) three.0 in
    record { from_left = leb-true a.left x two.0; to_right = ltb-true x a.right two.1; from_top = leb-true a.top y three.1; to_bottom = ltb-true y a.bottom all.1 }

pub within_from : (a : Area) (x y : ℕ) → IsWithin a x y → is_within a x y ≡ true
within_from a x y i =
    and_from _ _ (and_from _ _ (and_from _ _ (le-leb _ _ i.from_left) (lt-ltb _ _ i.to_right)) (le-leb _ _ i.from_top)) (lt-ltb _ _ i.to_bottom)

-- the tests on whole numbers are those on natural ones
le-natural : (z : ℤ) (x : ℕ) → int_le z (pos x) ≡ nat_le (natural z) x
le-natural (pos n) x = refl
le-natural (negsuc n) x = sym (le-leb 0 x (omega arith))

le-past : (z : ℤ) (x w : ℕ) → x < w → int_le (pos x) z ≡ nat_lt x (min (past z) w)
le-past (pos n) x w h = grind arith
le-past (negsuc n) x w h = grind arith

-- in a buffer, a rectangle has the places of its area
pub covers_is : (r : Rect) (w h x y : ℕ) → x < w → y < h → covers r (pos x) (pos y) ≡ is_within (area_in r w h) x y
covers_is r w h x y x_in y_in = rw (le-natural r.left x, le-past r.right x w x_in, le-natural r.top y, le-past r.bottom y h y_in) refl

-- the area of a rectangle has just the places that it has in the buffer
pub area_has : (r : Rect) (w h x y : ℕ) → IsIn r (pos x) (pos y) → x < w → y < h → IsWithin (area_in r w h) x y
area_has r w h x y i x_in y_in = record {
  from_left = natural_le r.left x i.from_left;
  to_right = omega (arith, lt-past r.right x i.to_right);
  from_top = natural_le r.top y i.from_top;
  to_bottom = omega (arith, lt-past r.bottom y i.to_bottom);
}

pub area_only : (r : Rect) (w h x y : ℕ) → IsWithin (area_in r w h) x y → IsIn r (pos x) (pos y)
area_only r w h x y i = record {
  from_left = le_from_natural r.left x i.from_left;
  to_right = le_from_past r.right x (omega arith);
  from_top = le_from_natural r.top y i.from_top;
  to_bottom = le_from_past r.bottom y (omega arith);
}

-- the rectangle of an area has just its places
pub rect_has : (a : Area) (x y : ℕ) → IsWithin a x y → IsIn (rect_of a) (pos x) (pos y)
rect_has a x y i =
    let some : nat_lt a.left a.right && nat_lt a.top a.bottom ≡ true = and_from _ _ (lt-ltb a.left a.right (omega (arith, i.from_left, i.to_right))) (lt-ltb a.top a.bottom (omega (arith, i.from_top, i.to_bottom))) in
    let r : Rect = record { left = pos a.left; top = pos a.top; right = pos (a.right - 1); bottom = pos (a.bottom - 1) } in
    let i' : IsIn r (pos x) (pos y) = record { from_left = omega (arith, ints); to_right = omega (arith, ints); from_top = omega (arith, ints); to_bottom = omega (arith, ints) } in
    rw some i'

-- a place of that rectangle, in natural numbers
pub record IsOf (a : Area) (x y : ℤ) : Type 0 where
  pub column : x ≡ pos (natural x)
  pub row : y ≡ pos (natural y)
  pub within : IsWithin a (natural x) (natural y)

natural_again : (z : ℤ) → pos 0 ≤ℤ z → z ≡ pos (natural z)
natural_again (pos n) h = refl
natural_again (negsuc n) h = absurd (omega (arith, ints))

sides_of : (a : Area) (x y : ℤ) → a.left < a.right → a.top < a.bottom → pos a.left ≤ℤ x → x ≤ℤ pos (a.right - 1) → pos a.top ≤ℤ y → y ≤ℤ pos (a.bottom - 1) → IsOf a x y
sides_of a (pos m) (pos n) some_x some_y l r t b = record {
  column = refl;
  row = refl;
  within = record { from_left = omega (arith, ints); to_right = omega (arith, ints); from_top = omega (arith, ints); to_bottom = omega (arith, ints) };
}
sides_of a (negsuc m) y some_x some_y l r t b = absurd (omega (arith, ints))
sides_of a (pos m) (negsuc n) some_x some_y l r t b = absurd (omega (arith, ints))

pub rect_only : (a : Area) (x y : ℤ) → IsIn (rect_of a) x y → IsOf a x y
rect_only a x y =
    cond_both (nat_lt a.left a.right && nat_lt a.top a.bottom) _ _ (λ r. IsIn r x y → IsOf a x y)
    (λ e i. let both = and_parts _ _ e in sides_of a x y (ltb-true a.left a.right both.0) (ltb-true a.top a.bottom both.1) i.from_left i.to_right i.from_top i.to_bottom)
    (λ e i. absurd (omega (arith, ints, i.from_left, i.to_right)))

-- a place of the whole buffer
pub whole_has : (w h x y : ℕ) → x < w → y < h → IsIn (whole w h) (pos x) (pos y)
whole_has w h x y a b = record { from_left = omega (arith, ints); to_right = omega (arith, ints); from_top = omega (arith, ints); to_bottom = omega (arith, ints) }

pub record IsPlace (w h : ℕ) (x y : ℤ) : Type 0 where
  pub column : x ≡ pos (natural x)
  pub row : y ≡ pos (natural y)
  pub inside : natural x < w
  pub above : natural y < h

pub whole_only : (w h : ℕ) (x y : ℤ) → IsIn (whole w h) x y → IsPlace w h x y
whole_only w h (pos m) (pos n) i = record { column = refl; row = refl; inside = omega (arith, ints, i.to_right); above = omega (arith, ints, i.to_bottom) }
whole_only w h (negsuc m) y i = absurd (omega (arith, ints, i.from_left))
whole_only w h (pos m) (negsuc n) i = absurd (omega (arith, ints, i.from_top))

-- the used rectangle has just the places that are in both
pub used_common : (r : Rect) (w h : ℕ) (x y : ℤ) → IsIn (rect_of (area_in r w h)) x y ↔ (IsIn r x y × IsIn (whole w h) x y)
used_common r w h x y = (
  λ i.
      let o = rect_only (area_in r w h) x y i in
      rw (o.column, o.row) (area_only r w h (natural x) (natural y) o.within, whole_has w h (natural x) (natural y) (omega (arith, o.within.to_right)) (omega (arith, o.within.to_bottom))),
  λ both.
      let o = whole_only w h x y both.1 in
      let i : IsIn r (pos (natural x)) (pos (natural y)) = rw (o.column, o.row) at both.0 in
      rw (o.column, o.row) (rect_has (area_in r w h) (natural x) (natural y) (area_has r w h (natural x) (natural y) i o.inside o.above)),
)

-- where nothing is in both, it is the rectangle without a place
pub used_none : (r : Rect) (w h : ℕ) → ((x y : ℤ) → ¬ (IsIn r x y × IsIn (whole w h) x y)) → rect_of (area_in r w h) ≡ record { left = pos 0; top = pos 0; right = negsuc 0; bottom = negsuc 0 }
used_none r w h no_common =
    let a : Area = area_in r w h in
    cond_both (nat_lt a.left a.right && nat_lt a.top a.bottom) _ _ (λ (u : Rect). u ≡ record { left = pos 0; top = pos 0; right = negsuc 0; bottom = negsuc 0 })
    (λ e.
    let both = and_parts (nat_lt a.left a.right) (nat_lt a.top a.bottom) e in
    let some_x : a.left < a.right = ltb-true a.left a.right both.0 in
    let some_y : a.top < a.bottom = ltb-true a.top a.bottom both.1 in
    let i : IsWithin a a.left a.top = record { from_left = omega arith; to_right = some_x; from_top = omega arith; to_bottom = some_y } in
    absurd (no_common (pos a.left) (pos a.top) (area_only r w h a.left a.top i, whole_has w h a.left a.top (omega arith) (omega arith))))
    (λ e. refl)

pub area_in_same : (r : Rect) {w v h k : ℕ} → w ≡ v → h ≡ k → area_in r w h ≡ area_in r v k
area_in_same r {w = w} {v = v} {h = h} {k = k} e f = ap (λ n. area_in r n h) e ∙ ap (λ n. area_in r v n) f
