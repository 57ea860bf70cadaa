-- The code's own words: what a value of a document is as an argument of each kind; plain ones are con_values'. `ArgumentLaws` has that it is what is
-- written.
use Rattle.std.specs.Prelude.{ℕ, List, [], ◌∷◌, Option, Some, None, option_map, option_and_then}
use Rattle.con_events.specs.declared.call.Words.{Words}
use Rattle.con_events.specs.declared.call.Words.TheVariants.{One, Each}
use Rattle.con_events.specs.Words.Arg as arg
use Rattle.con_events.specs.Arg.{Arg, Number, Signed, OneUnit, Flag, Text, Area, Clip, WordsOf, WordList, Records}
use Rattle.con_events.specs.Words.Arg.{Kind}
use Rattle.con_events.specs.Reading.{Item}
use Rattle.con_values.specs.Values.{number_in, unit_in, signed_in, rect_in, clip_in, records_in}
use Rattle.serde_json.specs.Data.{Data, Items, no_items, item}
use Rattle.serde_json.specs.Find.{as_bool, as_str, as_array}
use Rattle.con_document.specs.Units.{text_units}

abbrev pub text_in : Data → Option (List ℕ)
text_in d = option_map text_units (as_str d)

abbrev pub units_items : Items → Option (List ℕ)
units_items no_items = Some []
units_items (item d ds) = option_and_then (λ u. option_map (λ us. u ∷ us) (units_items ds)) (unit_in d)

abbrev pub list_in : Data → Option (List ℕ)
list_in d = option_and_then units_items (as_array d)

-- an array of a number for each cell, or a number for all
abbrev pub words_from : Option Items → Data → Option Words
words_from (Some ds) d = option_map Each (units_items ds)
words_from None d = option_map One (unit_in d)

abbrev pub words_in : Data → Option Words
words_in d = words_from (as_array d) d

abbrev pub written : Data → Item
written d arg.number = option_map Number (number_in d)
written d arg.signed = option_map Signed (signed_in d)
written d arg.unit = option_map OneUnit (unit_in d)
written d arg.flag = option_map Flag (as_bool d)
written d arg.text = option_map Text (text_in d)
written d arg.rect = option_map Area (rect_in d)
written d arg.clip = option_map Clip (clip_in d)
written d arg.words = option_map WordsOf (words_in d)
written d arg.list = option_map WordList (list_in d)
written d arg.records = option_map Records (records_in d)

abbrev pub arguments : Items → List Item
arguments no_items = []
arguments (item d ds) = written d ∷ arguments ds
