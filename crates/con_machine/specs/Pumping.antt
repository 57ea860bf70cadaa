-- One step of serving: the code's own words.
use Rattle.std.specs.Prelude.{◌≡◌, Option, Some, None}
use Rattle.std.specs.Prelude.{ℕ, List}
use Rattle.con_cooked.specs.declared.cooked.Cooked.{Cooked}
use Rattle.con_readers.specs.Act.{Act, typed}
use Rattle.con_readers.specs.Lines.{line_text}
use Rattle.con_readers.specs.Words.Reads.{Pumped, pumped, head_text}
use Rattle.con_readers.specs.declared.open.Open.{Open}
use Rattle.con_machine.specs.State.{State}
use Rattle.con_machine.specs.Serving.{followed}

-- one step of the reads of a console
abbrev pub pumped_of : State → Pumped
pumped_of s = pumped s.aliases s.reads s.records s.histories

abbrev pub with_pumped : State → Pumped → State
with_pumped s p = record s { reads = p.reads; records = p.records; histories = p.histories }

abbrev pub followed_by : State → Option Act → State
followed_by s None = s
followed_by s (Some a) = followed s a

-- the console after a step, and what shows of it
abbrev pub stepped : State → State
stepped s = followed_by (with_pumped s (pumped_of s)) (pumped_of s).act

-- the line that took a record is the first read's
abbrev pub IsTold : Option Act → List Open → Type 0
IsTold act os = (p : ℕ) (old new : Cooked) → act ≡ Some (typed p old new) → head_text os ≡ line_text new
