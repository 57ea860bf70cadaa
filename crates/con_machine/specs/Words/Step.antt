-- The words of the code and of laws about Step, which a reader need not believe.
use Rattle.std.specs.Prelude.{Bool, not}
use Rattle.con_events.specs.Actors.{is_paint}
use Rattle.con_events.specs.declared.event.Event.{Event}
use Rattle.con_machine.specs.State.{State}

abbrev pub is_painters : Event → Bool
is_painters e = is_paint e

-- nothing is asked for that was not painted yet
abbrev pub is_served : State → Bool
is_served s = not s.asked
