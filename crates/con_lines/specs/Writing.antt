-- An array's bytes, item by item.
use Rattle.std.specs.Prelude.{ℕ, Bool, true, false, List, [], ◌∷◌, ◌++◌}
use Rattle.serde_json.specs.Data.{Data}
use Rattle.serde_json.specs.Written.{compact_text, comma_if}
use Rattle.con_events.specs.Arg.{Arg}
use Rattle.con_lines.specs.Shown.{shown}

-- the bytes so far, and whether a value stands before the next one in its array
pub record Written : Type 0 where
  pub bytes : List ℕ
  pub later : Bool

-- these bytes, within one value
unfoldable pub more : Written → List ℕ → Written
more w bytes = record { bytes = w.bytes ++ bytes; later = w.later }

-- ready for one more value
unfoldable pub parted : Written → Written
parted w = record { bytes = w.bytes ++ comma_if w.later; later = true }

-- one more value
unfoldable pub put : Written → Data → Written
put w d = record { bytes = w.bytes ++ (comma_if w.later ++ compact_text d); later = true }

-- an array begins
unfoldable pub opened : Written → Written
opened w = record { bytes = w.bytes ++ (comma_if w.later ++ 91 ∷ []); later = false }

-- it ends
unfoldable pub shut : Written → Written
shut w = record { bytes = w.bytes ++ 93 ∷ []; later = true }

abbrev pub put_each : Written → List Data → Written
put_each w [] = w
put_each w (d ∷ ds) = put_each (put w d) ds

-- one more argument
abbrev pub put_arg : Written → Arg → Written
put_arg w a = put w (shown a)

-- nothing yet
abbrev pub nothing_written : Written
nothing_written = record { bytes = []; later = false }
