-- What the outside gives and takes, where it tells, and how often it has failed.
use Rattle.std.specs.Prelude.{ℕ, ◌≡◌, ◌<◌, ◌≤◌, ◌⊎◌, List, ◌++◌, length, take, Option, option_map}

-- a count of failures rose, or stands at the greatest number that it can hold
abbrev pub Rose : ℕ → ℕ → Type 0
Rose before now = (before < now) ⊎ (18446744073709551615 ≤ now)

-- these bytes, and then the ones still to come, where they are told
abbrev pub then_left : List ℕ → Option (List ℕ) → Option (List ℕ)
then_left front left = option_map (λ rest. front ++ rest) left

-- what was written, and then these bytes, where it is told
abbrev pub then_written : Option (List ℕ) → List ℕ → Option (List ℕ)
then_written written bytes = option_map (λ front. front ++ bytes) written

-- what was written is a front of the bytes
abbrev pub WroteFront : List ℕ → Option (List ℕ) → Option (List ℕ) → Type 0
WroteFront bytes before now = (n : ℕ) × (n ≤ length bytes) × (now ≡ then_written before (take n bytes))

-- a front was written, and not all of the bytes
abbrev pub WrotePart : List ℕ → Option (List ℕ) → Option (List ℕ) → Type 0
WrotePart bytes before now = (n : ℕ) × (n < length bytes) × (now ≡ then_written before (take n bytes))
