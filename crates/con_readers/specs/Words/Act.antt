-- The words of the code and of laws about Act, which a reader need not believe: the words below are the code's own.
use Rattle.std.specs.Prelude.{◌≡◌, ◌≤◌, ℕ, List, length, Option, Some, None}
use Rattle.con_cooked.specs.Cooked.{line_of}
use Rattle.con_cooked.specs.Words.Cooked.{echo_between}
use Rattle.con_cooked.specs.declared.cooked.Cooked.{Cooked}
use Rattle.con_readers.specs.Act.{Act, began, typed, passed, ended, woke}
use Rattle.con_readers.specs.declared.open.OpenRead.{OpenRead}
use Rattle.con_readers.specs.declared.step.ReadStep.{ReadStep}
use Rattle.con_readers.specs.declared.step.ReadStep.TheVariants as steps

-- what a caller is told of it: of a line that took a record what is drawn again
abbrev pub told : Option Act → ReadStep
told None = steps.Idle
told (Some (began p)) = steps.Started p
told (Some (typed p line line')) = steps.Echo p (echo_between (line_of line).line (line_of line').line)
told (Some (passed p)) = steps.Dropped p
told (Some (ended p read len)) = steps.Finished p len
told (Some (woke p line)) = steps.Woken p

-- what happened in a step that a caller is told of; an echo is what differs between the line before and after
abbrev pub IsOf : ReadStep → Option Act → Type 0
IsOf steps.Idle act = act ≡ None
IsOf (steps.Started p) act = act ≡ Some (began p)
IsOf (steps.Echo p echo) act =
    (old : Cooked) × (new : Cooked) × (act ≡ Some (typed p old new)) × (echo ≡ echo_between (line_of old).line (line_of new).line)
IsOf (steps.Dropped p) act = act ≡ Some (passed p)
IsOf (steps.Finished p len) act = (read : OpenRead) × (act ≡ Some (ended p read len))
IsOf (steps.Woken p) act = (line : Cooked) × (act ≡ Some (woke p line))

-- the places that an echo shows are those of a text, up to its end
abbrev pub IsIn : ReadStep → List ℕ → Type 0
IsIn (steps.Echo p echo) text = (echo.offset ≤ echo.end) × (echo.end ≡ length text)
IsIn steps.Idle text = Unit {0}
IsIn (steps.Started p) text = Unit {0}
IsIn (steps.Dropped p) text = Unit {0}
IsIn (steps.Finished p len) text = Unit {0}
IsIn (steps.Woken p) text = Unit {0}
