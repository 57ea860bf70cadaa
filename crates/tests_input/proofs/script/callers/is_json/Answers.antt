use Rattle.std.proofs.Common.{◌≡◌, refl, Option, Some, None, true}
use Rattle.std.specs.Prelude.{is_some, Result, List, ℕ, IsSome}
use Rattle.con_events.specs.Session.{Clients}
use Rattle.serde_json.specs.Data.{Data}
use Rattle.con_document.specs.Document.{IsDocument, json_of}
use Rattle.con_document.specs.StepLaws.{no_document}
use Rattle.tests_input.proofs.script.callers.is_json.Goals as goal

there : (o : Option Data) → (o ≡ None → ⊥) → is_some o ≡ true
there None h = absurd (h refl)
there (Some d) h = refl

is_there : (bytes : List ℕ) (r : Result Clients (List ℕ)) → IsDocument bytes r → IsSome (json_of bytes)
is_there bytes r is = there (json_of bytes) (λ e. no_document bytes r e is)

pub returns-in-Ok : goal.returns-in-Ok
returns-in-Ok c = ((λ yes. is_there c.args.bytes.now _ c.in-Ok.ensures.ok), (λ some. refl))

pub returns-in-Err-At : goal.returns-in-Err-At
returns-in-Err-At c = let fault = rw c.in-Err-At.field-0-is at c.in-Err-At.ensures.at in ((λ yes. is_there c.args.bytes.now _ fault.1), (λ some. refl))
