-- The code's own words: numbers for the beginnings of a line. Equal beginnings have equal ones.
use Rattle.std.specs.Prelude.{ℕ, ◌+◌, ◌*◌, ◌%◌, ◌≤◌, ◌≡◌, List, length, take, fold, slice_index_or}

-- one more unit
unfoldable pub next_sum : ℕ → ℕ → ℕ
next_sum sum unit = (sum * 16777619 + unit) % 4294967296

unfoldable pub sum_of : List ℕ → ℕ
sum_of units = fold next_sum 0 units

-- the checksums of the first 64 units, the first 128, and so on
pub record AreSums (units sums : List ℕ) : Type 0 where
  pub long : length sums ≡ 16
  pub each : (b : ℕ) → (b + 1) * 64 ≤ length units → slice_index_or sums b 0 ≡ sum_of (take ((b + 1) * 64) units)
