-- Which step a value of JSON is. A document writes a call as a report does, but texts as they are and words as numbers.
use Rattle.std.specs.Prelude.{◌≡◌, ◌≢◌, ◌↔◌, ℕ, List, [], ◌∷◌, map, codes, Option, Some}
use Rattle.std.specs.List.{AllZip}
use Rattle.con_events.specs.declared.call.Words.TheVariants.{Each}
use Rattle.con_events.specs.declared.script.Step.{Step}
use Rattle.con_events.specs.declared.script.Step.TheVariants as steps
use Rattle.con_events.specs.Arg.{Arg, Number, Text, WordsOf, WordList}
use Rattle.con_events.specs.Fits.{AreUnits, ArgFits}
use Rattle.con_events.specs.Table.{spelled, wanted_spelled}
use Rattle.con_lines.specs.Shown.{list_of, natural, shown}
use Rattle.serde_json.specs.Data.{Data, string}
use Rattle.con_document.specs.Units.{text_units}

-- the name of a step, and its arguments in order
abbrev pub step_told : Step → List ℕ × List Arg
step_told (steps.Call c) = ((spelled c).0, (spelled c).1)
step_told (steps.Begin w) = wanted_spelled w
step_told (steps.Exit n) = (codes "exit", Number n ∷ [])

-- an argument as a document writes it: a text in UTF-8, words as numbers, and all else as it is shown, within its limits
abbrev pub IsWritten : Arg → Data → Type 0
IsWritten (Text us) d = (text : List ℕ) × (d ≡ string text) × (text_units text ≡ us)
IsWritten (WordsOf (Each ws)) d = (d ≡ list_of (map natural ws)) × AreUnits ws
IsWritten (WordList ws) d = (d ≡ list_of (map natural ws)) × AreUnits ws
IsWritten a d = (d ≡ shown a) × ArgFits a

-- an array of the step's name and of its arguments; `read-with` is not of version 1
abbrev pub IsStep : ℕ → Data → Step → Type 0
IsStep v d s = ((step_told s).0 ≡ codes "read-with" → v ≢ 1)
    × ((ds : List Data) × (d ≡ list_of (string (step_told s).0 ∷ ds)) × AllZip IsWritten (step_told s).1 ds)

-- it reads each value that is a step as that step, and no other value
abbrev pub Reads : (ℕ → Data → Option Step) → Type 0
Reads reader = (v : ℕ) (d : Data) (s : Step) → (reader v d ≡ Some s) ↔ IsStep v d s
