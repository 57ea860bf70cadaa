-- What a terminal's size and picture become in a history.
use Rattle.std.specs.Prelude.{List, [], ◌∷◌, ◌++◌}
use Rattle.con_units.specs.declared.view.Sight.{Sight}
use Rattle.con_units.specs.declared.view.Sight.TheVariants as sights
use Rattle.con_events.specs.declared.entry.Entry.{Entry}
use Rattle.con_events.specs.declared.event.Event.{Event}
use Rattle.con_events.specs.declared.event.Event.TheVariants as events
use Rattle.con_machine.specs.State.{State}
use Rattle.con_machine.specs.Painting.{view_now}
use Rattle.con_machine.specs.Turns.{moved}

-- a new size; the view at a Paint
abbrev pub sights_at : State → Event → List Sight
sights_at s (events.Resize size) = sights.Resize size ∷ []
sights_at s events.Paint = sights.Paint (view_now s) ∷ []
sights_at s _ = []

-- the sizes of the Resizes and the views of the Paints, in order
abbrev pub sights_of : State → List Entry → List Sight
sights_of s [] = []
sights_of s (x ∷ xs) = sights_at s x.event ++ sights_of (moved s x) xs
