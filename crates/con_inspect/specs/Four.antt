-- Four files by name, and why there is nothing to audit.
use Rattle.std.specs.Prelude.{◌≡◌, ◌⊎◌, ℕ, List, [], ◌∷◌, Option, IfSome, Some, None, Err}
use Rattle.con_outside.specs.Named.{IsTooLong}
use Rattle.con_document.specs.Document.{IsDocument, json_of}
use Rattle.con_ending.specs.Files.{IsFile, Reason, missing, unread, too_long, no_json, no_session, Holds}

-- one text for each of the four files: their names, or their bytes
pub record Four : Type 0 where
  pub session : List ℕ
  pub link : List ℕ
  pub stream : List ℕ
  pub report : List ℕ

abbrev pub four_of : List ℕ → List ℕ → List ℕ → List ℕ → Four
four_of session link stream report = record { session = session; link = link; stream = stream; report = report }

-- in the order in which they are named and read
abbrev pub listed : Four → List (List ℕ)
listed four = four.session ∷ four.link ∷ four.stream ∷ four.report ∷ []

-- the files of these names have these bytes
abbrev pub AreFiles : Option (List ℕ → Option (List ℕ)) → Four → Four → Type 0
AreFiles files names bytes = IsFile files names.session bytes.session × IsFile files names.link bytes.link × IsFile files names.stream bytes.stream
    × IsFile files names.report bytes.report

-- ---- files that are not there

-- there is a file of this name, however long it is
abbrev pub IsThere : Option (List ℕ → Option (List ℕ)) → List ℕ → Type 0
IsThere files name = IfSome files (λ find. (bytes : List ℕ) × (find name ≡ Some bytes))

abbrev pub AreThere : Option (List ℕ → Option (List ℕ)) → List (List ℕ) → Type 0
AreThere files [] = Unit {0}
AreThere files (name ∷ names) = IsThere files name × AreThere files names

-- no file has the name, or the files failed
abbrev pub Lacks : Option (List ℕ → Option (List ℕ)) → Type 0 → Reason → List ℕ → Type 0
Lacks files failed missing name = Holds files name failed missing
Lacks files failed unread name = Holds files name failed unread
Lacks files failed _ name = ⊥

-- this is so of one of these files, and those before it are there
abbrev pub LacksFirst : Option (List ℕ → Option (List ℕ)) → Type 0 → Reason → List (List ℕ) → Type 0
LacksFirst files failed why [] = ⊥
LacksFirst files failed why (name ∷ names) = Lacks files failed why name ⊎ (IsThere files name × LacksFirst files failed why names)

-- one of these files is too long
abbrev pub HasLong : Option (List ℕ → Option (List ℕ)) → List (List ℕ) → Type 0
HasLong files [] = ⊥
HasLong files (name ∷ names) = IfSome files (λ find. IsTooLong (find name)) ⊎ HasLong files names

-- ---- nothing to audit

-- a session's file that is none, beside three more files
abbrev pub IsSessions : Option (List ℕ → Option (List ℕ)) → Four → List ℕ → Type 0
IsSessions files names bytes = (four : Four) × AreFiles files names four × (four.session ≡ bytes)

-- Why there is nothing to audit: a file is missing or was not read, and this is so of none before it; all are there, and one is too long; or all
-- have their bytes, and the first is no JSON or no session.
abbrev pub Bars : Option (List ℕ → Option (List ℕ)) → Four → Type 0 → Reason → Type 0
Bars files names failed missing = LacksFirst files failed missing (listed names)
Bars files names failed unread = LacksFirst files failed unread (listed names)
Bars files names failed too_long = AreThere files (listed names) × HasLong files (listed names)
Bars files names failed (no_json bytes) = IsSessions files names bytes × (json_of bytes ≡ None)
Bars files names failed (no_session bytes w) = IsSessions files names bytes × IsDocument bytes (Err w)
