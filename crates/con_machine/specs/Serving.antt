-- Open reads are served, and what happens shows on the screen.
use Rattle.std.specs.Prelude.{ℕ, pos, ◌+◌, ◌-◌, ◌*◌, ◌/◌, ◌-ℤ◌, ◌==◌, ◌&&◌, true, false, List, fold, if◌then◌else◌}
use Rattle.std.specs.Option.{option_map_or}
use Rattle.con_units.specs.Units.{changed_where}
use Rattle.con_cooked.specs.Cooked.{line_of}
use Rattle.con_page.specs.Page.{Page}
use Rattle.con_page.specs.Echo.{ended as line_ended}
use Rattle.con_screen.specs.Echo.{echoed}
use Rattle.con_page.specs.declared.origin.Origin.{Origin}
use Rattle.con_screens.specs.Buffers.{Buffers, buffer_at, screen_at}
use Rattle.con_readers.specs.Act.{Act, began, typed, passed, ended, woke}
use Rattle.con_readers.specs.Lines.{line_text}
use Rattle.con_readers.specs.Reads.{settled}
use Rattle.con_machine.specs.State.{State, noted_of, id_of}
use Rattle.con_machine.specs.ScreenCalls.{page_of, with_screen, with_page}
use Rattle.con_machine.specs.declared.reads.noted.Noted.{Noted}

-- the note of a process's read, if there is one, is changed
abbrev pub note_changed : (Noted → Noted) → List Noted → ℕ → List Noted
note_changed f ns p = changed_where (λ n. n.process == p) f ns

-- by how many rows the cell that lies n cells before a column, row by row, is higher
abbrev pub rows_before : ℕ → ℕ → ℕ → ℕ
rows_before width x n = (n - x + (width - 1)) / width

-- the cell that lies n cells before the cursor; it may lie above row 0
abbrev pub origin_before : Page → ℕ → Origin
origin_before p n = record { x = p.x + rows_before p.grid.width p.x n * p.grid.width - n; y = pos p.y -ℤ pos (rows_before p.grid.width p.x n) }

-- a read becomes the first one: it notes the active buffer, and where its line begins there: its initial text stands before the cursor
abbrev pub started_on : Buffers → Noted → Noted
started_on b n = let id = b.active in
    record n { buffer = id_of id; birth = option_map_or (λ x. x.birth) (buffer_at b id) 0; origin = origin_before (screen_at b id).page n.ahead }

-- what shows of a process's line, where the line echoes, and the buffer still lives on which it began
abbrev pub line_seen : State → ℕ → (Noted → State) → State
line_seen s p f = option_map_or (λ n. if n.echoes && option_map_or (λ b. b.birth == n.birth) (buffer_at s.buffers n.buffer.0) false then f n else s)
    (noted_of s.noted p) s

-- what is seen of a step of a read; of a line that a masked control ended nothing
abbrev pub followed : State → Act → State
followed s (began p) = record s { noted = note_changed (started_on s.buffers) s.noted p }
followed s (typed p old new) = line_seen s p (λ n.
    let e = echoed (screen_at s.buffers n.buffer.0) n.origin (line_text old) (line_text new) (line_of new).line.caret in
    record (with_screen s n.buffer.0 e.screen) { noted = note_changed (λ m. record m { origin = e.origin }) s.noted n.process })
followed s (passed p) = s
followed s (ended p read len) = line_seen s p (λ n. with_page s n.buffer.0 (line_ended (page_of s n.buffer.0) n.origin len))
followed s (woke p line) = record s { noted = note_changed (λ n. record n { woken = true }) s.noted p }

-- the first open read takes records until it is done or none is left, then the next one follows
unfoldable pub settled_state : State → State
settled_state s = let t = settled s.aliases s.reads s.records s.histories in
    fold followed (record s { reads = t.reads; records = t.records; histories = t.histories }) t.acts
