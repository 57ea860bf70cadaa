-- Bytes of the terminal, one at a time.
use Rattle.std.specs.Prelude.{ℕ, ◌+◌, List, [], ◌∷◌, fold, length, Option, None, Some, if◌then◌else◌}
use Rattle.con_units.specs.Split.{next}
use Rattle.con_records.specs.declared.record.Key.{Key}
use Rattle.con_vtin.specs.Pieces.{piece_grammar}
use Rattle.con_machine.specs.State.{State}
use Rattle.con_mouse.specs.Reports.{report_of}
use Rattle.con_mouse.specs.declared.report.Report.{Report}
use Rattle.con_machine.specs.Outcome.{has_bit}
use Rattle.con_machine.specs.Terminal.{records_of, piece_taken}
use Rattle.con_machine.specs.Words.Terminal.{by_report}

-- the pieces that a byte ends, after those bytes that are held, are taken
unfoldable pub byte_taken : State → ℕ → State
byte_taken s byte = let parts = next piece_grammar s.held byte in fold piece_taken (record s { held = parts.tail }) parts.items

-- how many records keys are stored as at most, in this state's modes
abbrev pub stored_count : State → List Key → ℕ
stored_count s [] = 0
stored_count s (k ∷ ks) = length (records_of s k) + stored_count s ks

-- the report that a control sequence is
abbrev pub told_report : Option (List ℕ) → Option Report
told_report None = None
told_report (Some bytes) = report_of bytes

-- a report is taken where reports are asked for
abbrev pub report_taken_in : State → Option Report → State
report_taken_in s r = if has_bit s.mode 0x10 then by_report s r else s
