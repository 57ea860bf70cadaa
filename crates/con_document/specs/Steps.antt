-- The code's own words: steps by rows, of the calls that are answered at once, the reads, and the end. `StepLaws` has that they are the steps of `Readers`.
use Rattle.std.specs.Prelude.{ℕ, List, [], ◌∷◌, codes, Option, None, Some, option_and_then}
use Rattle.con_events.specs.declared.call.Call.{Call}
use Rattle.con_events.specs.declared.script.Step.{Step}
use Rattle.con_events.specs.declared.script.Step.TheVariants as steps
use Rattle.con_events.specs.declared.event.Wanted.TheVariants as wanted
use Rattle.con_events.specs.Words.Arg as arg
use Rattle.con_events.specs.Arg.{Arg}
use Rattle.con_events.specs.Words.Arg.{the_number, the_list}
use Rattle.con_events.specs.Words.Table.{Row, row, nth, find, row_of}
use Rattle.con_events.specs.Reading.{row_from, whole}
use Rattle.serde_json.specs.Data.{Data, Items, no_items, item}
use Rattle.serde_json.specs.Find.{as_array, as_str}
use Rattle.con_document.specs.declared.version.Version.{Version}
use Rattle.con_document.specs.declared.version.Version.TheVariants.{One, Two}
use Rattle.con_document.specs.Values.{arguments}

-- a call's row as a step's
abbrev pub as_step : Option (Row Call) → Option (Row Step)
as_step None = None
as_step (Some r) = Some (row r.name r.kinds (λ xs. steps.Call (r.make xs)))

abbrev pub waits_rows : List (Row Step)
waits_rows = row (codes "read") (arg.number ∷ arg.number ∷ []) (λ xs. steps.Begin (wanted.Read (the_number (nth 0 xs)) (the_number (nth 1 xs))))
    ∷ row (codes "read-input") (arg.number ∷ arg.number ∷ []) (λ xs. steps.Begin (wanted.ReadInput (the_number (nth 0 xs)) (the_number (nth 1 xs))))
    ∷ row (codes "exit") (arg.number ∷ []) (λ xs. steps.Exit (the_number (nth 0 xs)))
    ∷ []

-- the row of a name in documents of version 1
unfoldable pub row_in_one : List ℕ → Option (Row Step)
row_in_one n = find n waits_rows (as_step (row_of n))

abbrev pub later_rows : List (Row Step)
later_rows = row (codes "read-with") (arg.number ∷ arg.number ∷ arg.text ∷ arg.number ∷ [])
    (λ xs. steps.Begin (wanted.ReadWith (the_number (nth 0 xs)) (the_number (nth 1 xs)) (the_list (nth 2 xs)) (the_number (nth 3 xs))))
    ∷ []

-- the row of a name in documents of version 2
unfoldable pub row_in_two : List ℕ → Option (Row Step)
row_in_two n = find n later_rows (row_in_one n)

abbrev pub step_row : Version → List ℕ → Option (Row Step)
step_row One n = row_in_one n
step_row Two n = row_in_two n

-- a name, and that step's arguments
abbrev pub step_items : Version → Items → Option Step
step_items v no_items = None
step_items v (item name ds) = option_and_then (λ n. whole (row_from (step_row v n) (arguments ds))) (as_str name)

abbrev pub step_in : Version → Data → Option Step
step_in v d = option_and_then (step_items v) (as_array d)
