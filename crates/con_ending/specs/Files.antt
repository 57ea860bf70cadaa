-- A session's file, and how a call of one ends.
use Rattle.std.specs.Prelude.{◌≡◌, ◌⊎◌, ℕ, ◌≤◌, List, length, Option, IfSome, Some, None, Ok, Err, codes}
use Rattle.con_events.specs.Session.{Clients}
use Rattle.con_outside.specs.Named.{IsTooLong}
use Rattle.con_document.specs.Document.{IsDocument, json_of}
use Rattle.con_document.specs.Units.{text_units}
use Rattle.con_lines.specs.Ending.{Ending, worded}
use Rattle.con_ending.specs.Ending.{Tells}
use Rattle.std.specs.Str.{encode_utf8_all}
use Rattle.std.specs.Char.Utf16.{utf16_lossy_chars}

-- ---- no session

-- the file of this name, where files are told, has these bytes
abbrev pub IsFile : Option (List ℕ → Option (List ℕ)) → List ℕ → List ℕ → Type 0
IsFile files name bytes = (length bytes ≤ 16777216) × IfSome files (λ find. find name ≡ Some bytes)

-- why there is no session: no file has the name, the files failed, the file is too long, its bytes are no JSON, or no session, with the path of the fault
pub data Reason : Type 0 where
  missing : Reason
  unread : Reason
  too_long : Reason
  no_json : List ℕ → Reason
  no_session : List ℕ → List ℕ → Reason

abbrev pub Holds : Option (List ℕ → Option (List ℕ)) → List ℕ → Type 0 → Reason → Type 0
Holds files name failed missing = IfSome files (λ find. find name ≡ None)
Holds files name failed unread = failed
Holds files name failed too_long = IfSome files (λ find. IsTooLong (find name))
Holds files name failed (no_json bytes) = IsFile files name bytes × (json_of bytes ≡ None)
Holds files name failed (no_session bytes at) = IsFile files name bytes × IsDocument bytes (Err at)

-- the last line that says so
abbrev pub ending_for : Reason → Ending
ending_for missing = worded 7 (codes "missing")
ending_for unread = worded 7 (codes "failed")
ending_for too_long = worded 3 (codes "length")
ending_for (no_json bytes) = worded 3 (codes "json")
ending_for (no_session bytes at) = worded 3 (encode_utf8_all (utf16_lossy_chars (text_units at)))

-- ---- a session or none

-- Without a session this much stays as it was, and there was no memory, and nothing was reported, or the last line alone says why there is none. Or the file
-- is one, of which this came.
abbrev pub OfFile : (Clients → Type 0) → Type 0 → ℕ → Option (List ℕ → Option (List ℕ)) → List ℕ → Type 0 → Option (List ℕ) → Option (List ℕ) → Type 0 → Type 0
OfFile Came Stays status files name files_failed before now failed =
    (Stays × (((status ≡ 9) × (now ≡ before)) ⊎ ((why : Reason) × Holds files name files_failed why × Tells status (ending_for why) before now failed)))
    ⊎ ((bytes : List ℕ) × (session : Clients) × IsFile files name bytes × IsDocument bytes (Ok session) × Came session)
