-- Bytes that are JSON, or not.
use Rattle.std.proofs.Common.{◌≡◌, ℕ, List, Bool, true, false, refl, Option, Some, None, ap, ◌∙◌}
use Rattle.std.specs.Prelude.{if◌then◌else◌, Result, option_map}
use Rattle.std.specs.Result.{result_map_both}
use Rattle.std.specs.Str.{IsUtf8, is_utf8}
use Rattle.std.proofs.lemmas.Str.{IsUtf8-from_is_utf8, is_utf8-from_IsUtf8}
use Rattle.con_events.specs.Session.{Clients}
use Rattle.serde_json.specs.Data.{Data}
use Rattle.serde_json.specs.Read.{read}
use Rattle.con_document.specs.Session.{Where, path_bytes, session_in}
use Rattle.con_document.specs.Steps.{step_in}
use Rattle.con_document.specs.Document.{IsDocument, json_of}
use Rattle.con_document.specs.StepLaws.{is_document}

choice : {A : Type 0} (b : Bool) (o : Option A) → (b ≡ true → o ≡ None) → (if b then o else None) ≡ None
choice true o h = h refl
choice false o h = refl

pub no_json : (bytes : List ℕ) → (IsUtf8 bytes → read bytes ≡ None) → json_of bytes ≡ None
no_json bytes h = choice (is_utf8 bytes) (read bytes) (λ t. h (IsUtf8-from_is_utf8 bytes t))

chosen : {A : Type 0} (b : Bool) (o : Option A) → b ≡ true → (if b then o else None) ≡ o
chosen b o t = rw t refl

json_is : (bytes : List ℕ) (d : Data) → IsUtf8 bytes → read bytes ≡ Some d → json_of bytes ≡ Some d
json_is bytes d u r = chosen (is_utf8 bytes) (read bytes) (is_utf8-from_IsUtf8 bytes u) ∙ r

pub document_is : (bytes : List ℕ) (d : Data) (r : Result Clients Where) → IsUtf8 bytes → read bytes ≡ Some d → session_in step_in d ≡ r → IsDocument bytes (result_map_both (λ s. s) path_bytes r)
document_is bytes d r u is e = is_document bytes r (ap (option_map (session_in step_in)) (json_is bytes d u is) ∙ ap (λ (x : Result Clients Where). Some x) e)
