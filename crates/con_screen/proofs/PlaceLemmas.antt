-- Where the places of a line stand, in whole numbers.
use Rattle.std.proofs.Common.{◌≡◌, ℕ, ℤ, pos, negsuc, ◌+ℤ◌, ◌-ℤ◌, ◌*ℤ◌, ◌<ℤ◌, ◌+◌, ◌-◌, ◌*◌, ◌/◌, ◌<◌, ◌≤◌, ◌↔◌, nat_lt, cond, ap, ◌∙◌, arith}
use Rattle.std.proofs.lemmas.Int.{ints}
use Rattle.std.proofs.lemmas.Bool.{cond-true, cond-false, lt-ltb, le-ltb}
use Rattle.con_units.specs.Glyph.{Glyph}
use Rattle.con_units.specs.Natural.{natural}
use Rattle.con_page.specs.Echo.{rows_above}
use Rattle.con_screen.specs.Words.Echo.{IsLaidRowByRow}

-- i cells from row 0 on, where place 0 stands s - m cells from there
abbrev by_cells : (i m s : ℕ) (rule : ℕ → Glyph → Glyph) (was : Glyph) → Glyph
by_cells i m s rule was = cond (nat_lt (i + m) s) was (rule (i + m - s) was)

at_place : (i m s k : ℕ) (rule : ℕ → Glyph → Glyph) (was : Glyph) → i + m ≡ s + k → by_cells i m s rule was ≡ rule k was
at_place i m s k rule was h =
    let here : i + m - s ≡ k = omega (arith, h) in
    cond-false (nat_lt (i + m) s) was _ (le-ltb (i + m) s (omega (arith, h))) ∙ ap (λ n. rule n was) here

before_all : (i m s : ℕ) (rule : ℕ → Glyph → Glyph) (was : Glyph) → i + m < s → by_cells i m s rule was ≡ was
before_all i m s rule was h = cond-true (nat_lt (i + m) s) was _ (lt-ltb (i + m) s h)

-- a row in whole numbers, as cells from row 0 on
cells_of : (y : ℤ) (w : ℕ) → y *ℤ pos w ≡ pos (natural y * w) -ℤ pos (rows_above y * w)
cells_of (pos a) w = omega (arith, ints)
cells_of (negsuc v) w = omega (arith, ints)

sum_is : (z : ℤ) (i a m x k : ℕ) → z ≡ pos a -ℤ pos m → pos i ≡ z +ℤ pos (x + k) → i + m ≡ a + x + k
sum_is z i a m x k e h = omega (arith, ints, e, h)

sum_below : (z : ℤ) (i a m x : ℕ) → z ≡ pos a -ℤ pos m → pos i <ℤ (z +ℤ pos x) → i + m < a + x
sum_below z i a m x e h = omega (arith, ints, e, h)

fits_where : (y : ℤ) (q h n : ℕ) → 0 < h → (natural y + q - rows_above y - (h - 1) ≤ n) ↔ (((y +ℤ pos q) -ℤ pos n) <ℤ pos h)
fits_where (pos a) q h n some = (λ e. omega (arith, ints, e), λ e. omega (arith, ints, e))
fits_where (negsuc v) q h n some = (λ e. omega (arith, ints, e), λ e. omega (arith, ints, e))

pub laid_row_by_row : IsLaidRowByRow
laid_row_by_row = record {
  place = λ p o rule i k was h. at_place i (rows_above o.y * p.grid.width) (natural o.y * p.grid.width + o.x) k rule was
      (sum_is (o.y *ℤ pos p.grid.width) i (natural o.y * p.grid.width) (rows_above o.y * p.grid.width) o.x k (cells_of o.y p.grid.width) h);
  before = λ p o rule i was h. before_all i (rows_above o.y * p.grid.width) (natural o.y * p.grid.width + o.x) rule was
      (sum_below (o.y *ℤ pos p.grid.width) i (natural o.y * p.grid.width) (rows_above o.y * p.grid.width) o.x (cells_of o.y p.grid.width) h);
  least = λ p o k n some. fits_where o.y ((o.x + k) / p.grid.width) p.grid.height n some;
}
