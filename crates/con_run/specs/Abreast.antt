-- A row of values, and what is so of each with its place.
use Rattle.std.specs.Prelude.{◌≡◌, ℕ, ◌+◌, ◌^◌, ◌<◌, List, length, slice_index_or}

-- where the row begins at this place, so is each
pub record AllAre {X : Type 0} (P : ℕ → X → Type 0) (base : ℕ) (xs : List X) : Type 0 where
  pub room : base + length xs < 2 ^ 64
  pub each : (k : ℕ) (d : X) → k < length xs → P (base + k) (slice_index_or xs k d)

-- where the rows begin at this place, each of the one became that of the other
pub record AllBecame {X : Type 0} (R : ℕ → X → X → Type 0) (base : ℕ) (xs ys : List X) : Type 0 where
  pub len : length ys ≡ length xs
  pub each : (k : ℕ) (d : X) → k < length xs → R (base + k) (slice_index_or xs k d) (slice_index_or ys k d)
