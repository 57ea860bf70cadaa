-- What a report shows of arguments and answers, as JSON.
use Rattle.std.specs.Prelude.{ℕ, ℤ, List, [], ◌∷◌, map, codes}
use Rattle.std.specs.Option.{option_map_or}
use Rattle.con_units.specs.Glyph.{Glyph}
use Rattle.con_units.specs.declared.place.Rect.{Rect}
use Rattle.con_records.specs.declared.record.Record.{Record}
use Rattle.con_records.specs.declared.record.Record.TheVariants as record_of
use Rattle.con_events.specs.declared.call.Words.TheVariants.{One, Each}
use Rattle.con_events.specs.Arg.{Arg, Number, Signed, OneUnit, Flag, Text, Area, Clip, WordsOf, WordList, Records}
use Rattle.serde_json.specs.Data.{Data, null, boolean, number, string, array, unsigned}
use Rattle.serde_json.specs.View.{items_of}
use Rattle.serde_json.specs.Find.{of_integer}
use Rattle.con_lines.specs.Hex.{hex_units}

abbrev pub list_of : List Data → Data
list_of ds = array (items_of ds)

-- a number of 0 or more, and one with its sign
abbrev pub natural : ℕ → Data
natural n = number (unsigned n)

abbrev pub whole : ℤ → Data
whole z = number (of_integer z)

-- units, and words, as one text
abbrev pub units_text : List ℕ → Data
units_text us = string (hex_units us)

abbrev pub rect_data : Rect → Data
rect_data r = list_of (whole r.left ∷ whole r.top ∷ whole r.right ∷ whole r.bottom ∷ [])

abbrev pub record_data : Record → Data
record_data (record_of.Key k) =
    list_of (string (codes "key") ∷ boolean k.down ∷ natural k.repeat ∷ natural k.vk ∷ natural k.scan ∷ natural k.unit ∷ natural k.state ∷ [])
record_data (record_of.Mouse m) = list_of (string (codes "mouse") ∷ whole m.x ∷ whole m.y ∷ natural m.buttons ∷ natural m.state ∷ natural m.flags ∷ [])
record_data (record_of.Size s) = list_of (string (codes "size") ∷ natural s.w ∷ natural s.h ∷ [])
record_data (record_of.Menu n) = list_of (string (codes "menu") ∷ natural n ∷ [])
record_data (record_of.Focus b) = list_of (string (codes "focus") ∷ boolean b ∷ [])

-- an argument of a call
abbrev pub shown : Arg → Data
shown (Number n) = natural n
shown (Signed z) = whole z
shown (OneUnit u) = natural u
shown (Flag b) = boolean b
shown (Text us) = units_text us
shown (Area r) = rect_data r
shown (Clip r) = option_map_or rect_data r null
shown (WordsOf (One w)) = natural w
shown (WordsOf (Each ws)) = units_text ws
shown (WordList ws) = units_text ws
shown (Records rs) = list_of (map record_data rs)

-- each cell's unit and word
abbrev pub cell_words : List Glyph → List ℕ
cell_words [] = []
cell_words (g ∷ gs) = g.unit ∷ g.attr.word ∷ cell_words gs
