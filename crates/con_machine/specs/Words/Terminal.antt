-- The words of the code and of laws about Terminal, which a reader need not believe.
use Rattle.std.specs.Prelude.{ℕ, pos, ◌+◌, ◌-◌, true, false, List, [], ◌∷◌, ◌++◌, min, Option, if◌then◌else◌}
use Rattle.std.specs.Option.{option_map_or}
use Rattle.con_units.specs.Natural.{natural}
use Rattle.con_records.specs.declared.record.Key.{Key}
use Rattle.con_records.specs.declared.record.Mouse.{Mouse}
use Rattle.con_mouse.specs.Reports.{report_of}
use Rattle.con_mouse.specs.Presses.{held_after, record_of}
use Rattle.con_mouse.specs.declared.report.Report.{Report}
use Rattle.con_page.specs.Page.{Page}
use Rattle.con_machine.specs.State.{State}
use Rattle.con_machine.specs.Outcome.{has_bit}
use Rattle.con_machine.specs.ScreenCalls.{page_of}
use Rattle.con_machine.specs.Terminal.{mouse_records, size_record}

abbrev pub released_key : Key → Key
released_key k = record k { down = false }

-- a mouse record's place, taken into the window, and counted from the buffer's corner
abbrev pub placed : Page → Mouse → Mouse
placed p m = record m { x = pos (min (natural m.x) (p.w - 1) + p.left); y = pos (min (natural m.y) (p.h - 1) + p.top) }

abbrev pub report_taken : State → Report → State
report_taken s r = record s {
  buttons = held_after s.buttons r;
  records = s.records ++ mouse_records (page_of s s.buffers.active) (record_of s.buttons r);
}

abbrev pub by_report : State → Option Report → State
by_report s r = option_map_or (report_taken s) r s

abbrev pub sequence_taken : State → List ℕ → State
sequence_taken s bytes = if has_bit s.mode 0x10 then by_report s (report_of bytes) else s

abbrev pub size_told : State → State
size_told s = if has_bit s.mode 8 then record s { records = s.records ++ size_record s ∷ [] } else s

abbrev pub asked : State → State
asked s = record s { asked = true }

abbrev pub drained : State → State
drained s = record s { drained = true }
