-- The words of the code and of laws about Four, which a reader need not believe.
use Rattle.std.specs.Prelude.{◌≡◌, ℕ, Bool, true, false, List, Option, IfSome}
use Rattle.con_outside.specs.Named.{IsTooLong}
use Rattle.con_lines.specs.Words.Ending.{ending_of}
use Rattle.con_ending.specs.Files.{IsFile, Reason, ending_for}
use Rattle.con_ending.specs.declared.file.Unrun.{Unrun}
use Rattle.con_ending.specs.declared.file.Unrun.TheVariants as unrun
use Rattle.con_inspect.specs.Four.{Four, Lacks, Bars}

-- what was read of one file: its bytes, or that it is too long
abbrev pub IsRead : Option (List ℕ → Option (List ℕ)) → List ℕ → List ℕ → Bool → Type 0
IsRead files name bytes true = IsFile files name bytes
IsRead files name bytes false = IfSome files (λ find. IsTooLong (find name))

-- what an answer without bytes says of one file
abbrev pub Explains : Option (List ℕ → Option (List ℕ)) → List ℕ → Type 0 → Unrun → Type 0
Explains files name failed (unrun.Told line) = (why : Reason) × Lacks files failed why name × (ending_of line ≡ ending_for why)
Explains files name failed unrun.OutOfMemory = Unit {0}

-- and of all four
abbrev pub Barred : Option (List ℕ → Option (List ℕ)) → Four → Type 0 → Unrun → Type 0
Barred files names failed (unrun.Told line) = (why : Reason) × Bars files names failed why × (ending_of line ≡ ending_for why)
Barred files names failed unrun.OutOfMemory = Unit {0}
