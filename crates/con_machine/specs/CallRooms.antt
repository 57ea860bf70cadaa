-- The memory that each call is given.
use Rattle.std.specs.Prelude.{ℕ, ◌≡◌, ◌≤◌, ◌<◌, ◌*◌, Bool, true, false, List, length, IsTrue}
use Rattle.con_units.specs.Limits.{most_items, most_records}
use Rattle.con_alias.specs.Room.{room_for, has_room}
use Rattle.con_events.specs.declared.call.Call.{Call}
use Rattle.con_events.specs.declared.call.Call.TheVariants as calls
use Rattle.con_events.specs.declared.call.Words.{Words}
use Rattle.con_handles.specs.declared.handle.Kind.TheVariants as kind
use Rattle.con_history.specs.Words.Histories.{room_for_configure}
use Rattle.con_screen.specs.Told.{nothing_told}
use Rattle.con_screens.specs.Words.Buffers.{IsRoom}
use Rattle.con_machine.specs.CellCalls.{are_cells}
use Rattle.con_machine.specs.Words.CellCalls.{read_rect, read_run_units, read_run_words}
use Rattle.con_machine.specs.Held.{Held}
use Rattle.con_machine.specs.InputCalls.{peeked, counted}
use Rattle.con_machine.specs.LineCalls.{told_history_info, listed_history, told_alias, listed_aliases}
use Rattle.con_machine.specs.Outcome.{Outcome, guard}
use Rattle.con_machine.specs.Words.ProcessCalls.{listed_processes}
use Rattle.con_machine.specs.Rooms.{IsRectRoom, IsSizeRoom}
use Rattle.con_machine.specs.Words.ScreenCalls.{told_mode, told_info, told_cursor, told_title}
use Rattle.con_machine.specs.declared.rooms.call_room.CallRoom.{CallRoom}
use Rattle.con_machine.specs.declared.rooms.call_room.CallRoom.TheVariants as rooms

-- an answer was made ready
abbrev pub is_answer : CallRoom → Bool
is_answer (rooms.Told reply) = true
is_answer rooms.Nothing = false
is_answer (rooms.Buffer b) = false
is_answer (rooms.Size f) = false
is_answer (rooms.Text a) = false
is_answer (rooms.Cells r) = false
is_answer (rooms.Settings r) = false
is_answer (rooms.Alias r) = false

-- the answer
abbrev pub IsAnswer : Outcome → CallRoom → Type 0
IsAnswer o (rooms.Told reply) = reply ≡ o.reply
IsAnswer o rooms.Nothing = ⊥
IsAnswer o (rooms.Buffer b) = ⊥
IsAnswer o (rooms.Size f) = ⊥
IsAnswer o (rooms.Text a) = ⊥
IsAnswer o (rooms.Cells r) = ⊥
IsAnswer o (rooms.Settings r) = ⊥
IsAnswer o (rooms.Alias r) = ⊥

-- a handle more, and a buffer
abbrev pub IsBufferRoom : Held → CallRoom → Type 0
IsBufferRoom c (rooms.Buffer b) = (0 < c.spare.handles) × IsRoom c.state.buffers b
IsBufferRoom c (rooms.Told reply) = ⊥
IsBufferRoom c rooms.Nothing = ⊥
IsBufferRoom c (rooms.Size f) = ⊥
IsBufferRoom c (rooms.Text a) = ⊥
IsBufferRoom c (rooms.Cells r) = ⊥
IsBufferRoom c (rooms.Settings r) = ⊥
IsBufferRoom c (rooms.Alias r) = ⊥

abbrev pub IsFitRoom : Held → ℕ → ℕ → ℕ → ℕ → CallRoom → Type 0
IsFitRoom c p handle w h (rooms.Size f) = IsSizeRoom c.state (guard c.state p handle kind.Output 2) w h f
IsFitRoom c p handle w h (rooms.Told reply) = ⊥
IsFitRoom c p handle w h rooms.Nothing = ⊥
IsFitRoom c p handle w h (rooms.Buffer b) = ⊥
IsFitRoom c p handle w h (rooms.Text a) = ⊥
IsFitRoom c p handle w h (rooms.Cells r) = ⊥
IsFitRoom c p handle w h (rooms.Settings r) = ⊥
IsFitRoom c p handle w h (rooms.Alias r) = ⊥

-- what a text tells, and ten records for each of its units
abbrev pub IsTextRoom : Held → List ℕ → CallRoom → Type 0
IsTextRoom c units (rooms.Text a) =
    (a.told ≡ nothing_told) × (length units ≤ most_items → length units ≤ a.room) × (length units ≤ most_items → 10 * length units ≤ c.spare.records)
IsTextRoom c units (rooms.Told reply) = ⊥
IsTextRoom c units rooms.Nothing = ⊥
IsTextRoom c units (rooms.Buffer b) = ⊥
IsTextRoom c units (rooms.Size f) = ⊥
IsTextRoom c units (rooms.Cells r) = ⊥
IsTextRoom c units (rooms.Settings r) = ⊥
IsTextRoom c units (rooms.Alias r) = ⊥

abbrev pub IsCellRoom : List ℕ → Words → (ok : Type 0) → CallRoom → Type 0
IsCellRoom units ws ok (rooms.Cells r) = ok → IsRectRoom r units ws
IsCellRoom units ws ok (rooms.Told reply) = ⊥
IsCellRoom units ws ok rooms.Nothing = ⊥
IsCellRoom units ws ok (rooms.Buffer b) = ⊥
IsCellRoom units ws ok (rooms.Size f) = ⊥
IsCellRoom units ws ok (rooms.Text a) = ⊥
IsCellRoom units ws ok (rooms.Settings r) = ⊥
IsCellRoom units ws ok (rooms.Alias r) = ⊥

-- room for one handle more
abbrev pub HasHandle : Held → Type 0
HasHandle c = 0 < c.spare.handles

unfoldable pub IsCallRoom : Held → ℕ → Call → CallRoom → Type 0
IsCallRoom c p (calls.BufferCreate rights) room = IsBufferRoom c room
IsCallRoom c p (calls.OpenOut rights) room = HasHandle c
IsCallRoom c p (calls.OpenIn rights) room = HasHandle c
IsCallRoom c p (calls.Close h) room = Unit {0}
IsCallRoom c p (calls.Duplicate h rights) room = HasHandle c
IsCallRoom c p (calls.Activate h) room = Unit {0}
IsCallRoom c p (calls.Mode h) room = IsAnswer (told_mode c.state p h) room
IsCallRoom c p (calls.SetMode h mode) room = Unit {0}
IsCallRoom c p (calls.Info h) room = IsAnswer (told_info c.state p h) room
IsCallRoom c p (calls.SetSize handle w h) room = IsFitRoom c p handle w h room
IsCallRoom c p (calls.SetCursor h x y) room = Unit {0}
IsCallRoom c p (calls.CursorInfo h) room = IsAnswer (told_cursor c.state p h) room
IsCallRoom c p (calls.SetCursorInfo h size visible) room = Unit {0}
IsCallRoom c p (calls.SetOrigin h x y) room = Unit {0}
IsCallRoom c p (calls.SetAttr h word) room = Unit {0}
IsCallRoom c p calls.Title room = IsAnswer (told_title c.state) room
IsCallRoom c p (calls.SetTitle text) room = Unit {0}
IsCallRoom c p (calls.Write h text) room = IsTextRoom c text room
IsCallRoom c p (calls.RectRead h rect) room = IsAnswer (read_rect c.state p h rect) room
IsCallRoom c p (calls.RectWrite h rect text words) room = IsCellRoom text words (are_cells rect text words ≡ true) room
IsCallRoom c p (calls.RunReadUnits h x y n) room = IsAnswer (read_run_units c.state p h x y n) room
IsCallRoom c p (calls.RunReadAttrs h x y n) room = IsAnswer (read_run_words c.state p h x y n) room
IsCallRoom c p (calls.RunWriteUnits h x y text) room = Unit {0}
IsCallRoom c p (calls.RunWriteAttrs h x y words) room = Unit {0}
IsCallRoom c p (calls.FillUnits h x y n unit) room = Unit {0}
IsCallRoom c p (calls.FillAttrs h x y n word) room = Unit {0}
IsCallRoom c p (calls.Scroll h rect clip x y unit word) room = Unit {0}
IsCallRoom c p (calls.Peek h n) room = IsAnswer (peeked c.state p h n) room
IsCallRoom c p (calls.WriteInput h records) room = length records ≤ most_records → length records ≤ c.spare.records
IsCallRoom c p (calls.Count h) room = IsAnswer (counted c.state p h) room
IsCallRoom c p (calls.Flush h) room = Unit {0}
IsCallRoom c p calls.HistoryInfo room = IsAnswer (told_history_info c.state) room
IsCallRoom c p (calls.SetHistory lines number flag) room =
    room ≡ rooms.Settings (room_for_configure c.state.histories (record { lines = lines; number = number; flag = flag }))
IsCallRoom c p calls.HistoryList room = IsAnswer (listed_history c.state p) room
IsCallRoom c p calls.HistoryClear room = Unit {0}
IsCallRoom c p (calls.AliasAdd program source target) room =
    (room ≡ rooms.Alias (room_for c.state.aliases program source target)) × IsTrue (has_room c.spare.aliases program)
IsCallRoom c p (calls.AliasRemove program source) room = Unit {0}
IsCallRoom c p (calls.AliasGet program source) room = IsAnswer (told_alias c.state program source) room
IsCallRoom c p (calls.AliasList program) room = IsAnswer (listed_aliases c.state program) room
IsCallRoom c p calls.Processes room = IsAnswer (listed_processes c.state) room
IsCallRoom c p (calls.Signal event group) room = Unit {0}
IsCallRoom c p (calls.Ignore on) room = Unit {0}
IsCallRoom c p (calls.HandlerAdd place) room = Unit {0}
IsCallRoom c p (calls.HandlerRemove place) room = Unit {0}
