-- The words of the code and of laws about Stored, which a reader need not believe.
use Rattle.std.specs.Prelude.{ℕ, Bool}
use Rattle.std.specs.Int.{is_in_range}

-- half of a pair of units that make one character
abbrev pub is_surrogate : ℕ → Bool
is_surrogate u = is_in_range 0xD800 0xDFFF u
