-- The last line of a report.
use Rattle.std.specs.Prelude.{ℕ, ◌<◌, List, [], ◌∷◌, codes}
use Rattle.std.specs.Str.{IsUtf8}
use Rattle.con_units.specs.declared.view.FrameFault.{FrameFault}
use Rattle.con_units.specs.declared.view.FrameFault.TheVariants as fault
use Rattle.serde_json.specs.Data.{Data, string}
use Rattle.serde_json.specs.Written.{compact_text}
use Rattle.con_lines.specs.Shown.{list_of, natural}

-- a status alone, with a text in UTF-8, or with the place and kind of a fault of the link
pub data Ending : Type 0 where
  alone : ℕ → Ending
  worded : ℕ → List ℕ → Ending
  at_frame : ℕ → FrameFault → Ending

abbrev pub status_of : Ending → ℕ
status_of (alone s) = s
status_of (worded s text) = s
status_of (at_frame place kind) = 8

abbrev pub kind_text : FrameFault → List ℕ
kind_text fault.Tag = codes "tag"
kind_text fault.Length = codes "length"
kind_text fault.Size = codes "size"
kind_text fault.Cut = codes "cut"

abbrev pub ending_data : Ending → Data
ending_data (alone s) = list_of (string (codes "end") ∷ natural s ∷ [])
ending_data (worded s text) = list_of (string (codes "end") ∷ natural s ∷ string text ∷ [])
ending_data (at_frame place kind) = list_of (string (codes "end") ∷ natural 8 ∷ natural place ∷ string (kind_text kind) ∷ [])

-- the line's bytes, without the line feed
unfoldable pub ending_text : Ending → List ℕ
ending_text e = compact_text (ending_data e)

-- the last lines that there are
pub data IsEnding : Ending → Type 0 where
  done : IsEnding (alone 0)
  no_memory : IsEnding (alone 9)
  usage : IsEnding (worded 2 (codes "usage"))
  document : (path : List ℕ) → IsUtf8 path → IsEnding (worded 3 path)
  link : IsEnding (worded 4 (codes "link"))
  terminal : IsEnding (worded 5 (codes "term"))
  missing : IsEnding (worded 7 (codes "missing"))
  failed : IsEnding (worded 7 (codes "failed"))
  too_long : IsEnding (worded 10 (codes "too long"))
  mirror : IsEnding (worded 12 (codes "mirror"))
  frame : (place : ℕ) (kind : FrameFault) → place < 18446744073709551616 → IsEnding (at_frame place kind)
