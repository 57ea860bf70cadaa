-- The part of a rectangle that a buffer has, in whole numbers and as an area.
use Rattle.std.proofs.Common.{◌≡◌, ℕ, ℤ, pos, negsuc, ◌-ℤ◌, ◌≤ℤ◌, ◌+◌, ◌-◌, ◌*◌, ◌<◌, ◌≤◌, min, Bool, true, false, ◌&&◌, cond, nat_lt, refl, sym, ap, ap₂, ◌∙◌, inl, inr, arith}
use Rattle.std.specs.Prelude.{int_le}
use Rattle.std.specs.Int.{int_min}
use Rattle.std.proofs.lemmas.Int.{ints, clamps}
use Rattle.std.proofs.lemmas.Bool.{and_from, and_parts, and_cases, lt-ltb, ltb-true, ltb-false, cond-true, cond_both}
use Rattle.con_units.specs.Natural.{natural}
use Rattle.con_units.specs.Rect.{IsIn}
use Rattle.con_units.specs.declared.place.Rect.{Rect}
use Rattle.con_rects.specs.Area.{covers, cell_count, used_rect, used_size}
use Rattle.con_rects.specs.Parts.{past, area_in, columns_of, rows_of, area_size, rect_of, whole}
use Rattle.con_rects.specs.declared.area.Area.{Area}
use Rattle.con_rects.proofs.AreaLemmas.{used_common}

pub same_tests : (a b : Bool) → (a ≡ true → b ≡ true) → (b ≡ true → a ≡ true) → a ≡ b
same_tests true b f g = sym (f refl)
same_tests false true f g = g refl
same_tests false false f g = refl

le_yes : (a b : ℤ) → int_le a b ≡ true → a ≤ℤ b
le_yes a b h = grind (arith, ints)

yes_le : (a b : ℤ) → a ≤ℤ b → int_le a b ≡ true
yes_le a b h = grind (arith, ints)

pub covers_in : (r : Rect) (x y : ℤ) → covers r x y ≡ true → IsIn r x y
covers_in r x y h =
    let a = and_parts (int_le r.left x && int_le x r.right && int_le r.top y) (int_le y r.bottom) h in
    let b = and_parts (int_le r.left x && int_le x r.right) (int_le r.top y) a.0 in
    let c = and_parts (int_le r.left x) (int_le x r.right) b.0 in
    record { from_left = le_yes r.left x c.0; to_right = le_yes x r.right c.1; from_top = le_yes r.top y b.1; to_bottom = le_yes y r.bottom a.1 }

pub covers_from : (r : Rect) (x y : ℤ) → IsIn r x y → covers r x y ≡ true
covers_from r x y i = and_from _ _ (and_from _ _ (and_from _ _ (yes_le r.left x i.from_left) (yes_le x r.right i.to_right)) (yes_le r.top y i.from_top)) (yes_le y r.bottom i.to_bottom)

-- the lesser of a side and a buffer's last column or row
high_from : (z : ℤ) (l w : ℕ) → pos l ≤ℤ int_min z (pos w -ℤ pos 1) → l < min (past z) w
high_from (pos n) l w h = omega (arith, ints, clamps)
high_from (negsuc n) l w h = absurd (omega (arith, ints, clamps))

high_to : (z : ℤ) (l w : ℕ) → l < min (past z) w → pos l ≤ℤ int_min z (pos w -ℤ pos 1)
high_to (pos n) l w h = omega (arith, ints, clamps)
high_to (negsuc n) l w h = absurd (omega arith)

high_is : (z : ℤ) (l w : ℕ) → l < min (past z) w → int_min z (pos w -ℤ pos 1) ≡ pos (min (past z) w - 1)
high_is (pos n) l w h = omega (arith, ints, clamps)
high_is (negsuc n) l w h = absurd (omega arith)

high_test : (z : ℤ) (l w : ℕ) → int_le (pos l) (int_min z (pos w -ℤ pos 1)) ≡ nat_lt l (min (past z) w)
high_test z l w =
    same_tests (int_le (pos l) (int_min z (pos w -ℤ pos 1))) (nat_lt l (min (past z) w))
    (λ e. lt-ltb l (min (past z) w) (high_from z l w (le_yes (pos l) (int_min z (pos w -ℤ pos 1)) e)))
    (λ e. yes_le (pos l) (int_min z (pos w -ℤ pos 1)) (high_to z l w (ltb-true l (min (past z) w) e)))

abbrev sides : ℕ → ℕ → ℤ → ℤ → Rect
sides l t r b = record { left = pos l; top = pos t; right = r; bottom = b }

abbrev no_place : Rect
no_place = record { left = pos 0; top = pos 0; right = negsuc 0; bottom = negsuc 0 }

sides_same : (l t : ℕ) (r b r' b' : ℤ) (x y : Bool) → (x ≡ true → r ≡ r') → (y ≡ true → b ≡ b') → cond (x && y) (sides l t r b) no_place ≡ cond (x && y) (sides l t r' b') no_place
sides_same l t r b r' b' true true f g = ap₂ (sides l t) (f refl) (g refl)
sides_same l t r b r' b' true false f g = refl
sides_same l t r b r' b' false y f g = refl

pub used_rect_is : (r : Rect) (w h : ℕ) → used_rect r w h ≡ rect_of (area_in r w h)
used_rect_is r w h =
    let l : ℕ = natural r.left in
    let t : ℕ = natural r.top in
    let x : ℕ = min (past r.right) w in
    let y : ℕ = min (past r.bottom) h in
    let right : ℤ = int_min r.right (pos w -ℤ pos 1) in
    let bottom : ℤ = int_min r.bottom (pos h -ℤ pos 1) in
    ap₂ (λ p q. cond (p && q) (sides l t right bottom) no_place) (high_test r.right l w) (high_test r.bottom t h)
    ∙ sides_same l t right bottom (pos (x - 1)) (pos (y - 1)) (nat_lt l x) (nat_lt t y) (λ e. high_is r.right l w (ltb-true l x e)) (λ e. high_is r.bottom t h (ltb-true t y e))

-- how many columns, or rows, the rectangle of an area has
ahead_is : (a b : ℕ) → a ≤ b → natural (pos b -ℤ pos a) ≡ b - a
ahead_is a b h = grind (arith, ints)

pub side_is : (l r : ℕ) → l < r → cond (int_le (pos l) (pos (r - 1))) (natural (pos (r - 1) -ℤ pos l) + 1) 0 ≡ r - l
side_is l r h =
    cond-true (int_le (pos l) (pos (r - 1))) _ _ (yes_le (pos l) (pos (r - 1)) (omega (arith, ints)))
    ∙ ap (λ n. n + 1) (ahead_is l (r - 1) (omega arith)) ∙ omega arith

none_size : (a : Area) → (nat_lt a.left a.right && nat_lt a.top a.bottom) ≡ false → 0 ≡ area_size a
none_size a no_cell = elim (and_cases (nat_lt a.left a.right) (nat_lt a.top a.bottom) no_cell) [
  | inl columns ↦ let no : columns_of a ≡ 0 = omega (arith, ltb-false a.left a.right columns) in let none : 0 ≡ 0 * rows_of a = omega arith in none ∙ ap (λ n. n * rows_of a) (sym no)
  | inr rows ↦ let no : rows_of a ≡ 0 = omega (arith, ltb-false a.top a.bottom rows) in let none : 0 ≡ columns_of a * 0 = omega arith in none ∙ ap (λ n. columns_of a * n) (sym no)
]

count_of : (a : Area) → cell_count (rect_of a) ≡ area_size a
count_of a =
    cond_both (nat_lt a.left a.right && nat_lt a.top a.bottom) _ _ (λ (u : Rect). cell_count u ≡ area_size a)
    (λ e. let both = and_parts (nat_lt a.left a.right) (nat_lt a.top a.bottom) e in
    ap₂ (λ m n. m * n) (side_is a.left a.right (ltb-true a.left a.right both.0)) (side_is a.top a.bottom (ltb-true a.top a.bottom both.1)))
    (λ e. none_size a e)

pub used_size_is : (r : Rect) (w h : ℕ) → used_size r w h ≡ area_size (area_in r w h)
used_size_is r w h = ap cell_count (used_rect_is r w h) ∙ count_of (area_in r w h)

-- it has just the places that are in both
pub used_covers : (r : Rect) (w h : ℕ) (x y : ℤ) → covers (used_rect r w h) x y ≡ covers r x y && covers (whole w h) x y
used_covers r w h x y =
    let u : Rect = rect_of (area_in r w h) in
    ap (λ (u : Rect). covers u x y) (used_rect_is r w h)
    ∙ same_tests (covers u x y) (covers r x y && covers (whole w h) x y)
    (λ e. let both = (used_common r w h x y).0 (covers_in u x y e) in and_from _ _ (covers_from r x y both.0) (covers_from (whole w h) x y both.1))
    (λ e. let both = and_parts (covers r x y) (covers (whole w h) x y) e in
    covers_from u x y ((used_common r w h x y).1 (covers_in r x y both.0, covers_in (whole w h) x y both.1)))
