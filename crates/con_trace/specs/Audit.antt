-- The line that tells what an audit found.
use Rattle.std.specs.Prelude.{ℕ, List, [], ◌∷◌, codes}
use Rattle.serde_json.specs.Data.{Data, string}
use Rattle.serde_json.specs.Written.{compact_text}
use Rattle.con_lines.specs.Shown.{list_of, natural}

-- it is a run; or it is none, as this place shows in this part
pub data Found : Type 0 where
  a_run : Found
  no_run : ℕ → List ℕ → Found

abbrev pub found_data : Found → Data
found_data a_run = list_of (string (codes "audit") ∷ string (codes "yes") ∷ [])
found_data (no_run place part) = list_of (string (codes "audit") ∷ string (codes "no") ∷ natural place ∷ string part ∷ [])

-- the line's bytes, without the line feed
unfoldable pub found_text : Found → List ℕ
found_text f = compact_text (found_data f)
