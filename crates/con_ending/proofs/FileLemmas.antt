-- What reading a session tells of its bytes, and of the file that they came from.
use Rattle.std.proofs.Common.{◌≡◌, ℕ, List, Option, inl, inr, subst, ap}
use Rattle.std.specs.Prelude.{Result, Ok, Err, None, IfOk, IfErr}
use Rattle.std.specs.Char.Utf16.{utf16_lossy_chars}
use Rattle.std.specs.Str.{encode_utf8_all}
use Rattle.con_script.specs.declared.place.SessionFault.{SessionFault}
use Rattle.con_script.specs.declared.place.SessionFault.TheVariants as faults
use Rattle.con_document.specs.Document.{IsDocument, json_of}
use Rattle.con_document.specs.Units.{text_units}
use Rattle.con_script.specs.Places.{IsJson, IsAt}
use Rattle.con_lines.specs.Ending.{worded}
use Rattle.con_ending.specs.declared.file.Unrun.{Unrun}
use Rattle.con_ending.specs.declared.file.Unrun.TheVariants as unrun
use Rattle.con_ending.specs.Files.{IsFile, no_json, no_session}
use Rattle.con_ending.specs.Words.Files.{Explains, Misread}

-- bytes that were refused as no JSON are none
pub no_json_by : (bytes : List ℕ) (fault : SessionFault) → fault ≡ faults.Json → IsJson fault (json_of bytes ≡ None) → json_of bytes ≡ None
no_json_by bytes fault is refused = subst (λ f. IsJson f (json_of bytes ≡ None)) is refused

-- bytes that were refused with a path are no session, with that path
pub no_session_by : (bytes at : List ℕ) (fault : SessionFault) → fault ≡ faults.At at → IsAt fault (λ text. (w : List ℕ) × IsDocument bytes (Err w) × (text ≡ text_units w))
    → (w : List ℕ) × IsDocument bytes (Err w) × (worded 3 (encode_utf8_all (utf16_lossy_chars at)) ≡ worded 3 (encode_utf8_all (utf16_lossy_chars (text_units w))))
no_session_by bytes at fault is refused =
    let found = subst (λ f. IsAt f (λ text. (w : List ℕ) × IsDocument bytes (Err w) × (text ≡ text_units w))) is refused in
    (found.0, found.1, ap (λ us. worded 3 (encode_utf8_all (utf16_lossy_chars us))) found.2)

-- what came of the bytes of a file came of that file
pub found_by : {A E : Type 0} (r : Result A E) (P : List ℕ → Type 0) (Q : List ℕ → A → Type 0) (bytes : List ℕ) → P bytes → IfOk r (Q bytes) → IfOk r (λ a. (bytes : List ℕ) × P bytes × Q bytes a)
found_by (Ok a) P Q bytes file of = (bytes, file, of)
found_by (Err e) P Q bytes file of = tt

explained : (files : Option (List ℕ → Option (List ℕ))) (name bytes : List ℕ) (failed : Type 0) (why : Unrun) → IsFile files name bytes → Misread bytes why → Explains files name failed why
explained files name bytes failed (unrun.Told line) file misread = elim misread [
  | inl m ↦ (no_json bytes, (file, m.0), m.1)
  | inr m ↦ (no_session bytes m.0, (file, m.1), m.2)
]
explained files name bytes failed unrun.OutOfMemory file misread = tt

pub explained_by : {A : Type 0} (files : Option (List ℕ → Option (List ℕ))) (name bytes : List ℕ) (failed : Type 0) (r : Result A Unrun) → IsFile files name bytes → IfErr r (Misread bytes) → IfErr r (Explains files name failed)
explained_by files name bytes failed (Ok session) file misread = tt
explained_by files name bytes failed (Err why) file misread = explained files name bytes failed why file misread
