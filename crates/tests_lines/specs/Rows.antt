-- What a key changes in a line, and what steps of the open reads come to.
use Rattle.std.specs.Prelude.{ℕ, zero, suc, Bool, true, List, [], ◌∷◌, Option, slice_get}
use Rattle.con_records.specs.declared.record.Record.{Record}
use Rattle.con_records.specs.declared.record.Record.TheVariants as record_
use Rattle.con_history.specs.declared.histories.Histories.{Histories}
use Rattle.con_alias.specs.Aliases.{AliasList}
use Rattle.con_line.specs.Line.{LineText}
use Rattle.con_line.specs.Words.Line.{pressed, edit_between}
use Rattle.con_line.specs.declared.press.Press.{Press}
use Rattle.con_line.specs.declared.edit.Edit.{Edit}
use Rattle.con_readers.specs.Words.Act.{told}
use Rattle.con_readers.specs.Reads.{begun, place_of}
use Rattle.con_readers.specs.Words.Reads.{pumped, answered_in}
use Rattle.con_readers.specs.declared.answer.Answer.{Answer}
use Rattle.con_readers.specs.declared.open.Open.{Open}
use Rattle.con_readers.specs.declared.open.OpenRead.TheVariants as reads
use Rattle.con_readers.specs.declared.step.ReadStep.{ReadStep}

-- what a key changes, by the insert flag, the units, the caret, and the line of the history that it brings in
abbrev pub change : Bool → List ℕ → ℕ → Press → List ℕ → Edit
change insert units caret key recalled =
    let l : LineText = record { units = units; caret = caret; insert = insert } in edit_between units (pressed l key recalled).units

-- a change from this place on, in a text of so many units
abbrev pub from : ℕ → ℕ → Edit
from first before = record { first = first; before = before }

-- what a caller is told of the first n steps
abbrev pub steps : ℕ → List AliasList → List Open → List Record → Histories → List ReadStep
steps zero al os rs hs = []
steps (suc n) al os rs hs = let p = pumped al os rs hs in told p.act ∷ steps n al p.reads p.records p.histories

-- the reads after them
abbrev pub reads_after : ℕ → List AliasList → List Open → List Record → Histories → List Open
reads_after zero al os rs hs = os
reads_after (suc n) al os rs hs = let p = pumped al os rs hs in reads_after n al p.reads p.records p.histories

-- reads of a record, of the processes 1 and 2
abbrev pub two_reads : List Open
two_reads = begun 1 (reads.Records 1) ∷ begun 2 (reads.Records 1) ∷ []

-- the console has the focus
abbrev pub one_record : List Record
one_record = record_.Focus true ∷ []

-- the answer of the process's read, where it is done
abbrev pub answered_by : List Open → ℕ → Option Answer
answered_by os p = answered_in (slice_get os (place_of os p))
