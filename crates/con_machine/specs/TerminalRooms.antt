-- The memory of an event that is no client's.
use Rattle.std.specs.Prelude.{ℕ, ◌≡◌, ◌+◌, ◌*◌, ◌<◌, ◌≤◌, true, length, vec_capacity}
use Rattle.con_events.specs.Session.{is_size}
use Rattle.con_events.specs.declared.event.Event.{Event}
use Rattle.con_events.specs.declared.event.Event.TheVariants as events
use Rattle.con_screens.specs.Words.Resize.{AreFits}
use Rattle.con_units.specs.declared.place.Size.{Size}
use Rattle.con_machine.specs.Held.{Held}
use Rattle.con_machine.specs.Marks.{IsPaintRoom}
use Rattle.con_machine.specs.declared.rooms.terminal_room.SideRoom.{SideRoom}
use Rattle.con_machine.specs.declared.rooms.terminal_room.SideRoom.TheVariants as rooms

-- room for the keys of a byte, and for the records of n bytes
abbrev pub IsKeysRoom : Held → ℕ → SideRoom → Type 0
IsKeysRoom c n (rooms.Keys keys) = (64 ≤ vec_capacity keys) × (2 * n ≤ c.spare.records)
IsKeysRoom c n rooms.Nothing = ⊥
IsKeysRoom c n (rooms.Fits f) = ⊥
IsKeysRoom c n (rooms.Paint r) = ⊥

-- the window's new size in every buffer, and room for its record
abbrev pub IsFitsRoom : Held → Size → SideRoom → Type 0
IsFitsRoom c size (rooms.Fits f) = (f.window ≡ size) × AreFits c.state.buffers f × (0 < c.spare.records)
IsFitsRoom c size rooms.Nothing = ⊥
IsFitsRoom c size (rooms.Keys keys) = ⊥
IsFitsRoom c size (rooms.Paint r) = ⊥

abbrev pub IsPaintsRoom : Held → SideRoom → Type 0
IsPaintsRoom c (rooms.Paint r) = IsPaintRoom c.state r
IsPaintsRoom c rooms.Nothing = ⊥
IsPaintsRoom c (rooms.Keys keys) = ⊥
IsPaintsRoom c (rooms.Fits f) = ⊥

-- what an event of the terminal's side, or a Paint, needs; nothing for a size that no window has
unfoldable pub IsSideRoom : Held → Event → SideRoom → Type 0
IsSideRoom c (events.Feed bytes) r = IsKeysRoom c (length bytes + length c.state.held) r
IsSideRoom c events.Quiet r = IsKeysRoom c (length c.state.held) r
IsSideRoom c (events.Resize size) r = is_size size ≡ true → IsFitsRoom c size r
IsSideRoom c events.Paint r = IsPaintsRoom c r
IsSideRoom c (events.Call call) r = Unit {0}
IsSideRoom c (events.Begin w) r = Unit {0}
IsSideRoom c events.Collect r = Unit {0}
IsSideRoom c events.TakeCtrl r = Unit {0}
IsSideRoom c (events.Exit status) r = Unit {0}
IsSideRoom c events.Ask r = Unit {0}
IsSideRoom c events.Hangup r = Unit {0}
IsSideRoom c events.Drained r = Unit {0}
