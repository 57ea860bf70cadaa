-- Who is asked when an event is delivered to a chain, the oldest handler first in the list.
use Rattle.std.specs.Prelude.{ℕ, ◌+◌, Bool, List, [], ◌∷◌, Option, Some, None, unwrap_or, if◌then◌else◌}
use Rattle.std.specs.Option.{option_map_or}

-- the newest that answers true
abbrev pub newest : List Bool → Option ℕ
newest [] = None
newest (b ∷ bs) = option_map_or (λ i. Some (i + 1)) (newest bs) (if b then Some 0 else None)

-- the handlers from this one on are asked: all, where none answers true
abbrev pub asked_from : List Bool → ℕ
asked_from bs = unwrap_or (newest bs) 0
