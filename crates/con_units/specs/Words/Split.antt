-- The words of the code and of laws about Split, which a reader need not believe.
use Rattle.std.specs.Prelude.{ℕ, List, [], Option, unwrap_or}
use Rattle.std.specs.Option.{option_map_or}
use Rattle.con_units.specs.Split.{Grammar, Split, with_items, begun, read_after, next}

abbrev pub items_or_none : {A : Type 0} → Option (List A) → List A
items_or_none o = unwrap_or o []

abbrev pub begun_again : {A : Type 0} → Grammar A → ℕ → Option (List A) → Split A
begun_again g u o = option_map_or (λ items. record { items = items; tail = [] }) o (begun g u)

abbrev pub begun_after : {A : Type 0} → Grammar A → List ℕ → ℕ → Split A
begun_after g kept u = read_after g kept u (begun g u)

abbrev pub ended : {A : Type 0} → Grammar A → List ℕ → ℕ → Option (List A) → Split A
ended g front u o = option_map_or (λ items. record { items = items; tail = [] }) o (with_items (g.broken front) (begun_after g (g.kept front) u))

abbrev pub read_on : {A : Type 0} → Grammar A → Split A → ℕ → Split A
read_on g s u = with_items s.items (next g s.tail u)
