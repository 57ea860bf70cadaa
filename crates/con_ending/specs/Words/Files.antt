-- The words of the code and of laws about Files, which a reader need not believe.
use Rattle.std.specs.Prelude.{◌≡◌, ◌⊎◌, ℕ, List, Option, None, Err}
use Rattle.con_document.specs.Document.{IsDocument, json_of}
use Rattle.con_lines.specs.Words.Ending.{ending_of}
use Rattle.con_ending.specs.Files.{Reason, no_json, no_session, Holds, ending_for}
use Rattle.con_ending.specs.declared.file.Unrun.{Unrun}
use Rattle.con_ending.specs.declared.file.Unrun.TheVariants as unrun

-- what an answer without a session says
abbrev pub Explains : Option (List ℕ → Option (List ℕ)) → List ℕ → Type 0 → Unrun → Type 0
Explains files name failed (unrun.Told line) = (why : Reason) × Holds files name failed why × (ending_of line ≡ ending_for why)
Explains files name failed unrun.OutOfMemory = Unit {0}

-- why bytes are no session, where there was memory to tell
abbrev pub Misread : List ℕ → Unrun → Type 0
Misread bytes (unrun.Told line) = ((json_of bytes ≡ None) × (ending_of line ≡ ending_for (no_json bytes)))
    ⊎ ((at : List ℕ) × IsDocument bytes (Err at) × (ending_of line ≡ ending_for (no_session bytes at)))
Misread bytes unrun.OutOfMemory = Unit {0}
