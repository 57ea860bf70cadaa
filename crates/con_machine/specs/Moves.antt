-- What an event does to what is said of pictures: whether one is asked for, whether the size is a new one, which was painted last;
-- and to the link's end.
use Rattle.std.specs.Prelude.{◌≡◌, Bool, true, false, Option, Some}
use Rattle.con_units.specs.declared.view.View.{View}
use Rattle.con_events.specs.declared.event.Event.{Event}
use Rattle.con_events.specs.declared.event.Event.TheVariants as events
use Rattle.con_machine.specs.State.{State}
use Rattle.con_machine.specs.Painting.{view_now}
use Rattle.con_machine.specs.Follows.{asks_by}

-- a Resize stands without a Paint behind it
abbrev pub resizes_by : Bool → Event → Bool
resizes_by new (events.Resize size) = true
resizes_by new events.Paint = false
resizes_by new _ = new

abbrev pub painted_by : State → Event → Option View
painted_by s events.Paint = Some (view_now s)
painted_by s _ = s.painted

abbrev pub drains_by : Bool → Event → Bool
drains_by ended events.Drained = true
drains_by ended _ = ended

pub record Moves (s : State) (e : Event) (t : State) : Type 0 where
  pub asks : t.asked ≡ asks_by s.asked e
  pub sizes : t.resized ≡ resizes_by s.resized e
  pub paints : t.painted ≡ painted_by s e
  pub ends : t.drained ≡ drains_by s.drained e
