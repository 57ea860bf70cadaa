-- What is taken of the link.
use Rattle.std.specs.Prelude.{◌≡◌, ◌⊎◌, ℕ, true, List, [], Option, Result, flat_map, length}
use Rattle.con_link.specs.LinkReading.{LinkReading, AnswersBy, all_go_on}
use Rattle.con_link.specs.declared.fault.LinkFault.{LinkFault}

-- Behind the frames nothing was taken of the link, or no more than one reading takes: a frame, of which no event came, a front of one, or the bytes to the
-- one that shows a fault. Behind a frame that ends the link it is nothing.
abbrev pub TakesBehind : (R : LinkReading) → List R.One → List ℕ → Option (List ℕ) → Type 0
TakesBehind R frames text left =
    (text ≡ []) ⊎ ((all_go_on R frames ≡ true) × (r : Result R.One LinkFault) × AnswersBy R r (length (flat_map R.spelling frames)) text left)
