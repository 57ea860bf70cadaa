-- What each read takes while the reads are served: fronts of the records that are there, one after another.
use Rattle.std.specs.Prelude.{◌-◌, List, flat_map, length, take}
use Rattle.con_records.specs.declared.record.Record.{Record}

-- what stands in the first list before the second, its end
abbrev pub front : List Record → List Record → List Record
front rs rest = take (length rs - length rest) rs

-- all records of the pieces
unfoldable pub joined : {A : Type 0} → List (A × List Record) → List Record
joined ps = flat_map (λ p. p.1) ps
