-- What comes from the terminal's side.
use Rattle.std.specs.Prelude.{ℕ, pos, ◌+◌, ◌-◌, ◌==◌, ◌&&◌, Bool, true, false, List, [], ◌∷◌, ◌++◌, map, fold, min, Option, if◌then◌else◌}
use Rattle.std.specs.Option.{option_map_or}
use Rattle.con_units.specs.Natural.{natural}
use Rattle.con_units.specs.Split.{split_after}
use Rattle.con_units.specs.declared.place.Size.{Size}
use Rattle.con_records.specs.declared.record.Key.{Key}
use Rattle.con_records.specs.declared.record.Mouse.{Mouse}
use Rattle.con_records.specs.declared.record.Record.{Record}
use Rattle.con_records.specs.declared.record.Record.TheVariants as kinds
use Rattle.con_vtin.specs.Keys.{quieted}
use Rattle.con_vtin.specs.Pieces.{Piece, Typed, Ended, piece_grammar}
use Rattle.con_vtin.specs.Sequences.{key_units}
use Rattle.con_mouse.specs.Reports.{report_of}
use Rattle.con_mouse.specs.Presses.{held_after, record_of}
use Rattle.con_page.specs.Page.{Page}
use Rattle.con_screens.specs.Resize.{all_resized}
use Rattle.con_machine.specs.State.{State}
use Rattle.con_machine.specs.Outcome.{has_bit}
use Rattle.con_machine.specs.ScreenCalls.{page_of, reported}
use Rattle.con_machine.specs.Signals.{signalled_to}
use Rattle.con_machine.specs.Serving.{settled_state}

-- ctrl+C, where the input is processed
abbrev pub is_break : State → Key → Bool
is_break s k = has_bit s.mode 1 && (k.vk == 0x43) && (k.unit == 3) && has_bit k.state 8

-- a key as records: it goes down and up, or it is a record for each unit of its sequence
abbrev pub records_of : State → Key → List Record
records_of s k = if has_bit s.mode 0x200 then map reported (key_units k s.cursor_keys) else kinds.Key k ∷ kinds.Key (record k { down = false }) ∷ []

-- Ctrl+C is no record: what stands before it is served first, and then it is signalled to all.
abbrev pub key_taken : State → Key → State
key_taken s k = if is_break s k then signalled_to (settled_state s) 0 0 else record s { records = s.records ++ records_of s k }

-- a mouse record's place is taken into the window, and counted from the buffer's corner
abbrev pub mouse_records : Page → Option Mouse → List Record
mouse_records p mouse = option_map_or (λ m. kinds.Mouse (
    record m { x = pos (min (natural m.x) (p.w - 1) + p.left); y = pos (min (natural m.y) (p.h - 1) + p.top) }) ∷ []) mouse []

-- a key; or a control sequence that is no key, which may be a report of the mouse, where these are asked for
abbrev pub piece_taken : State → Piece → State
piece_taken s (Typed k) = key_taken s k
piece_taken s (Ended bytes) = if has_bit s.mode 0x10 then option_map_or
    (λ r. record s { buttons = held_after s.buttons r; records = s.records ++ mouse_records (page_of s s.buffers.active) (record_of s.buttons r) })
    (report_of bytes) s else s

-- the pieces of the bytes, after those that were held, are taken in order
unfoldable pub fed : State → List ℕ → State
fed s bytes = let parts = split_after piece_grammar s.held bytes in fold piece_taken (record s { held = parts.tail }) parts.items

-- nothing came for a while: what was held becomes keys
unfoldable pub quiet : State → State
quiet s = fold key_taken (record s { held = [] }) (quieted s.held)

-- the size of the active buffer, as a record, where such records are asked for
abbrev pub size_record : State → Record
size_record s = let grid = (page_of s s.buffers.active).grid in kinds.Size (record { w = grid.width; h = grid.height })

unfoldable pub resized : State → Size → State
resized s size = let t : State = record s { buffers = all_resized s.buffers size; resized = true } in
    if has_bit s.mode 8 then record t { records = s.records ++ size_record t ∷ [] } else t
