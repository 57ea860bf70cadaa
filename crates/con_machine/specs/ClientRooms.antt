-- The memory that each event of a client is given.
use Rattle.std.specs.Prelude.{ℕ, ◌≡◌, ◌<◌, List, [], Some, OnOk, slice_get}
use Rattle.con_events.specs.declared.call.Call.{Call}
use Rattle.con_events.specs.declared.event.Event.{Event}
use Rattle.con_events.specs.declared.event.Event.TheVariants as events
use Rattle.con_events.specs.declared.event.Wanted.{Wanted}
use Rattle.con_events.specs.declared.event.Wanted.TheVariants as wanted
use Rattle.con_readers.specs.Reads.{answer_in, place_of}
use Rattle.con_machine.specs.Began.{IsBeginning, HasBack}
use Rattle.con_machine.specs.CallRooms.{IsCallRoom}
use Rattle.con_machine.specs.Held.{Held}
use Rattle.con_machine.specs.Words.Reads.{read_answer, records_answer}
use Rattle.con_machine.specs.State.{noted_of}
use Rattle.con_machine.specs.declared.rooms.client_room.ClientRoom.{ClientRoom}
use Rattle.con_machine.specs.declared.rooms.client_room.ClientRoom.TheVariants as rooms

-- that of a call
abbrev pub IsRoomOfCall : Held → ℕ → Call → ClientRoom → Type 0
IsRoomOfCall c p call (rooms.Call r) = IsCallRoom c p call r
IsRoomOfCall c p call rooms.Nothing = ⊥
IsRoomOfCall c p call (rooms.Read r) = ⊥
IsRoomOfCall c p call (rooms.Records r) = ⊥
IsRoomOfCall c p call (rooms.Back r) = ⊥

-- one place more for a read, and for what is noted and left of it
pub record HasPlaces (c : Held) : Type 0 where
  pub reads : 0 < c.spare.reads
  pub noted : 0 < c.spare.noted
  pub rests : 0 < c.spare.rests

-- a read of units
abbrev pub IsReadRoom : Held → ℕ → ℕ → ℕ → List ℕ → ℕ → ClientRoom → Type 0
IsReadRoom c p h n initial mask (rooms.Read r) = HasPlaces c × OnOk (read_answer c.state p h n initial) (IsBeginning r c.state p h n initial mask)
IsReadRoom c p h n initial mask (rooms.Call r) = ⊥
IsReadRoom c p h n initial mask rooms.Nothing = ⊥
IsReadRoom c p h n initial mask (rooms.Records r) = ⊥
IsReadRoom c p h n initial mask (rooms.Back r) = ⊥

-- a read of records
abbrev pub IsRecordsRoom : Held → ℕ → ℕ → ℕ → ClientRoom → Type 0
IsRecordsRoom c p h n (rooms.Records r) = (0 < c.spare.reads) × OnOk (records_answer c.state p h n) (r ≡ Some n)
IsRecordsRoom c p h n (rooms.Call r) = ⊥
IsRecordsRoom c p h n rooms.Nothing = ⊥
IsRecordsRoom c p h n (rooms.Read r) = ⊥
IsRecordsRoom c p h n (rooms.Back r) = ⊥

abbrev pub IsBeginRoom : Held → ℕ → Wanted → ClientRoom → Type 0
IsBeginRoom c p (wanted.Read h n) room = IsReadRoom c p h n [] 0 room
IsBeginRoom c p (wanted.ReadInput h n) room = IsRecordsRoom c p h n room
IsBeginRoom c p (wanted.ReadWith h n initial mask) room = IsReadRoom c p h n initial mask room

-- what is left of a line
abbrev pub IsBackRoom : Held → ℕ → ClientRoom → Type 0
IsBackRoom c p (rooms.Back r) = HasBack c.state.rests r (noted_of c.state.noted p) (answer_in (slice_get c.state.reads (place_of c.state.reads p)))
IsBackRoom c p (rooms.Call r) = ⊥
IsBackRoom c p rooms.Nothing = ⊥
IsBackRoom c p (rooms.Read r) = ⊥
IsBackRoom c p (rooms.Records r) = ⊥

unfoldable pub IsClientRoom : Held → ℕ → Event → ClientRoom → Type 0
IsClientRoom c p (events.Call call) room = IsRoomOfCall c p call room
IsClientRoom c p (events.Begin w) room = IsBeginRoom c p w room
IsClientRoom c p events.Collect room = IsBackRoom c p room
IsClientRoom c p events.TakeCtrl room = Unit {0}
IsClientRoom c p (events.Exit status) room = Unit {0}
IsClientRoom c p (events.Feed bytes) room = Unit {0}
IsClientRoom c p events.Quiet room = Unit {0}
IsClientRoom c p (events.Resize size) room = Unit {0}
IsClientRoom c p events.Ask room = Unit {0}
IsClientRoom c p events.Hangup room = Unit {0}
IsClientRoom c p events.Drained room = Unit {0}
IsClientRoom c p events.Paint room = Unit {0}
