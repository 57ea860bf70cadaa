-- Whose event it is.
use Rattle.std.specs.Prelude.{ℕ, ◌+◌, Bool, true, false, not, ◌&&◌, List, [], ◌∷◌, if◌then◌else◌}
use Rattle.con_events.specs.declared.actor.Actor.{Actor}
use Rattle.con_events.specs.declared.actor.Actor.TheVariants as actors
use Rattle.con_events.specs.declared.entry.Entry.{Entry}
use Rattle.con_events.specs.declared.event.Event.{Event}
use Rattle.con_events.specs.declared.event.Event.TheVariants as events

abbrev pub is_clients : Event → Bool
is_clients (events.Call c) = true
is_clients (events.Begin w) = true
is_clients events.Collect = true
is_clients events.TakeCtrl = true
is_clients (events.Exit n) = true
is_clients _ = false

-- the painter's one
abbrev pub is_paint : Event → Bool
is_paint events.Paint = true
is_paint _ = false

-- all others are the terminal side's
abbrev pub is_actors : Actor → Event → Bool
is_actors (actors.Client p) e = is_clients e
is_actors actors.Terminal e = not (is_clients e) && not (is_paint e)
is_actors actors.Painter e = is_paint e

-- how many pictures were taken
abbrev pub paints : List Entry → ℕ
paints [] = 0
paints (x ∷ xs) = (if is_paint x.event then 1 else 0) + paints xs
