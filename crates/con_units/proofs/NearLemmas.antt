-- The nearest colour in the parts of an index.
use Rattle.std.proofs.Common.{◌≡◌, ℕ, ◌+◌, ◌-◌, ◌*◌, ◌/◌, ◌%◌, ◌<◌, ◌≤◌, true, false, nat_le, refl, arith, rules}
use Rattle.con_units.specs.Shade.{near, near_in_cube, near_grey}
use Rattle.con_units.specs.Words.Shade.{IsNearSo}

place_is : (r g b : ℕ) → (16 + 36 * r + 6 * g + b) - 16 ≡ 36 * r + 6 * g + b
place_is r g b = omega arith

red_is : (r g b : ℕ) → g ≤ 5 → b ≤ 5 → (36 * r + 6 * g + b) / 36 ≡ r
red_is r g b h k = omega arith

green_is : (r g b : ℕ) → g ≤ 5 → b ≤ 5 → (36 * r + 6 * g + b) / 6 % 6 ≡ g
green_is r g b h k = omega arith

blue_is : (r g b : ℕ) → g ≤ 5 → b ≤ 5 → (36 * r + 6 * g + b) % 6 ≡ b
blue_is r g b h k = omega arith

in_cube : (r g b : ℕ) → r ≤ 5 → g ≤ 5 → b ≤ 5 → nat_le (16 + 36 * r + 6 * g + b) 231 ≡ true
in_cube r g b h k l = search (arith, rules)

cube : (r g b : ℕ) → r ≤ 5 → g ≤ 5 → b ≤ 5 → near (16 + 36 * r + 6 * g + b) ≡ near_in_cube r g b
unfolding near
cube r g b h k l = rw (in_cube r g b h k l, place_is r g b, red_is r g b k l, green_is r g b k l, blue_is r g b k l) refl

past_cube : (q k : ℕ) → nat_le (232 + 6 * q + k) 231 ≡ false
past_cube q k = search (arith, rules)

quarter_is : (q k : ℕ) → k < 6 → ((232 + 6 * q + k) - 232) / 6 ≡ q
quarter_is q k h = omega arith

grey : (q k : ℕ) → q ≤ 3 → k < 6 → near (232 + 6 * q + k) ≡ near_grey q
unfolding near
grey q k h l = rw (past_cube q k, quarter_is q k l) refl

pub near_so : IsNearSo
near_so = record { cube = cube; grey = grey }
