-- The words of the code and of laws about Named, which a reader need not believe.
use Rattle.std.specs.Prelude.{ℕ, ◌≡◌, suc, zero, List, [], ◌∷◌, Option, Some, None, nat_eq, slice_get, if◌then◌else◌}
use Rattle.std.specs.Cmp.Lexicographic.{pointwise}
use Rattle.con_outside.specs.Named.{IsTooLong}
use Rattle.con_outside.specs.declared.files.Found.{Found}
use Rattle.con_outside.specs.declared.files.Found.TheVariants as found

-- the place of the first name that is this one, or how many there are
abbrev pub place_in : List (List ℕ) → List ℕ → ℕ
place_in [] name = zero
place_in (n ∷ names) name = if pointwise nat_eq n name then zero else suc (place_in names name)

-- the text at the place of the name
abbrev pub file_in : List (List ℕ) → List (List ℕ) → List ℕ → Option (List ℕ)
file_in names texts name = slice_get texts (place_in names name)

-- what an answer says of the file of that name, and of the bytes that were read
abbrev pub IsFound : Found → Option (List ℕ) → List ℕ → Type 0
IsFound found.Whole file out = file ≡ Some out
IsFound found.Missing file out = file ≡ None
IsFound found.TooLong file out = IsTooLong file
