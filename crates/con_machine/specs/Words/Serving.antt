-- The words of the code and of laws about Serving, which a reader need not believe.
use Rattle.std.specs.Prelude.{ℕ, pos, ◌+◌, ◌-◌, ◌*◌, ◌-ℤ◌, ◌==◌, ◌&&◌, Bool, true, false, fold, Option, if◌then◌else◌}
use Rattle.std.specs.Option.{option_map_or}
use Rattle.con_cooked.specs.declared.cooked.Cooked.{Cooked}
use Rattle.con_cooked.specs.Cooked.{line_of}
use Rattle.con_page.specs.Echo.{ended as line_ended}
use Rattle.con_screen.specs.Echo.{Echoed, echoed}
use Rattle.con_page.specs.declared.origin.Origin.{Origin}
use Rattle.con_screens.specs.declared.buffer.Buffer.{Buffer}
use Rattle.con_screens.specs.Buffers.{Buffers, buffer_at, screen_at}
use Rattle.con_readers.specs.Lines.{line_text}
use Rattle.con_readers.specs.Reads.{Settled}
use Rattle.con_machine.specs.State.{State}
use Rattle.con_machine.specs.ScreenCalls.{page_of, with_screen, with_page}
use Rattle.con_machine.specs.Serving.{note_changed, rows_before, started_on, followed}
use Rattle.con_machine.specs.declared.reads.noted.Noted.{Noted}

abbrev pub birth_of : Buffers → ℕ → ℕ
birth_of b id = option_map_or (λ x. x.birth) (buffer_at b id) 0

-- the cell that lies n cells before a place
abbrev pub cell_before : ℕ → ℕ → ℕ → ℕ → Origin
cell_before width x y n = record { x = x + rows_before width x n * width - n; y = pos y -ℤ pos (rows_before width x n) }

abbrev pub read_started : State → ℕ → State
read_started s p = record s { noted = note_changed (started_on s.buffers) s.noted p }

-- whether the buffer with this birth still lives
abbrev pub is_born : ℕ → Option Buffer → Bool
is_born birth b = option_map_or (λ x. x.birth == birth) b false

-- the line shows: it echoes, and its buffer lives
abbrev pub shows_line : Buffers → Noted → Bool
shows_line b n = n.echoes && is_born n.birth (buffer_at b n.buffer.0)

abbrev pub with_echo : State → Noted → Echoed → State
with_echo s n e = record (with_screen s n.buffer.0 e.screen) { noted = note_changed (λ m. record m { origin = e.origin }) s.noted n.process }

-- a line is typed
abbrev pub line_shown : State → Option Noted → Cooked → Cooked → State
line_shown s note old new = option_map_or (λ n. if shows_line s.buffers n
    then with_echo s n (echoed (screen_at s.buffers n.buffer.0) n.origin (line_text old) (line_text new) (line_of new).line.caret)
    else s) note s

-- a line is done
abbrev pub line_finished : State → Option Noted → ℕ → State
line_finished s note len =
    option_map_or (λ n. if shows_line s.buffers n then with_page s n.buffer.0 (line_ended (page_of s n.buffer.0) n.origin len) else s) note s

-- a masked control ended it: nothing shows
abbrev pub line_woken : State → ℕ → State
line_woken s p = record s { noted = note_changed (λ n. record n { woken = true }) s.noted p }

abbrev pub settled_from : State → Settled → State
settled_from s t = fold followed (record s { reads = t.reads; records = t.records; histories = t.histories }) t.acts
