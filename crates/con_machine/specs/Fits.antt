-- The memory that each event is given.
use Rattle.std.specs.Prelude.{◌≡◌, true, IsSomeAnd}
use Rattle.con_events.specs.declared.actor.Actor.{Actor}
use Rattle.con_events.specs.declared.actor.Actor.TheVariants as actors
use Rattle.con_events.specs.declared.event.Event.{Event}
use Rattle.con_procs.specs.Procs.{is_attached}
use Rattle.con_machine.specs.ClientRooms.{IsClientRoom}
use Rattle.con_machine.specs.Held.{Held}
use Rattle.con_machine.specs.TerminalRooms.{IsSideRoom}
use Rattle.con_machine.specs.declared.rooms.room.Room.{Room}

-- a client that is not attached needs none
unfoldable pub Fits : Room → Held → Actor → Event → Type 0
Fits room c (actors.Client p) e = is_attached c.state.procs p ≡ true → IsSomeAnd room.client (IsClientRoom c p e)
Fits room c actors.Terminal e = IsSomeAnd room.side (IsSideRoom c e)
Fits room c actors.Painter e = IsSomeAnd room.side (IsSideRoom c e)
