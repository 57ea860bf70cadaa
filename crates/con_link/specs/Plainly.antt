-- The same of a link with no second terminal.
use Rattle.std.specs.Prelude.{ℕ, List, Option, Result}
use Rattle.con_units.specs.declared.view.Frame.{Frame}
use Rattle.con_units.specs.declared.view.FrameFault.{FrameFault}
use Rattle.con_link.specs.declared.fault.LinkFault.{LinkFault}
use Rattle.con_link.specs.LinkReading.{plainly, ShowsBy, AnswersBy, IsLinkBy}

abbrev pub Shows : FrameFault → List ℕ → Option (List ℕ) → Type 0
Shows kind text left = ShowsBy plainly kind text left

abbrev pub Answers : Result Frame LinkFault → ℕ → List ℕ → Option (List ℕ) → Type 0
Answers result place text left = AnswersBy plainly result place text left

abbrev pub IsLink : List Frame → Option (List ℕ) → Type 0
IsLink frames left = IsLinkBy plainly frames left
