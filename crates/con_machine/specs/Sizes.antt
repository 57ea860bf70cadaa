-- What an event does to the window's size, which all buffers share.
use Rattle.std.specs.Prelude.{ℕ, ◌≡◌}
use Rattle.con_events.specs.declared.event.Event.{Event}
use Rattle.con_events.specs.declared.event.Event.TheVariants as events
use Rattle.con_machine.specs.State.{State}

abbrev pub width_by : ℕ → Event → ℕ
width_by w (events.Resize size) = size.w
width_by w _ = w

abbrev pub height_by : ℕ → Event → ℕ
height_by h (events.Resize size) = size.h
height_by h _ = h

pub record SizedBy (s : State) (e : Event) (t : State) : Type 0 where
  pub wide : t.buffers.w ≡ width_by s.buffers.w e
  pub high : t.buffers.h ≡ height_by s.buffers.h e
