-- The words of the code and of laws about Units, which a reader need not believe.
use Rattle.std.specs.Prelude.{ℕ, Bool, List, nat_eq}
use Rattle.std.specs.Cmp.Lexicographic.{pointwise}
use Rattle.std.specs.List.{common_prefix_len}

-- texts are compared exactly
abbrev pub same_units : List ℕ → List ℕ → Bool
same_units = pointwise nat_eq

-- the first place at which two texts differ
abbrev pub first_difference : List ℕ → List ℕ → ℕ
first_difference = common_prefix_len nat_eq
