-- An event's name, its arguments in order, and what it is answered with, where it is not refused.
use Rattle.std.specs.Prelude.{ℕ, List, [], ◌∷◌, ◌++◌, codes}
use Rattle.con_events.specs.Arg.{Arg, Number, OneUnit}
use Rattle.con_events.specs.Table.{spelled, wanted_spelled}
use Rattle.con_events.specs.declared.event.Event.{Event}
use Rattle.con_events.specs.declared.event.Event.TheVariants as event
use Rattle.con_events.specs.declared.form.Form.{Form}
use Rattle.con_events.specs.declared.form.Form.TheVariants as form

-- the bytes of Feed are no argument of a call, and are told beside this
abbrev pub event_spelled : Event → List ℕ × List Arg × Form
event_spelled (event.Call c) = spelled c
event_spelled (event.Begin w) = (codes "begin-" ++ (wanted_spelled w).0, (wanted_spelled w).1, form.Nothing)
event_spelled event.Collect = (codes "collect", [], form.Wait)
event_spelled event.TakeCtrl = (codes "take-ctrl", [], form.Control)
event_spelled (event.Exit n) = (codes "exit", Number n ∷ [], form.Nothing)
event_spelled (event.Feed bs) = (codes "feed", [], form.Nothing)
event_spelled event.Quiet = (codes "quiet", [], form.Nothing)
event_spelled (event.Resize s) = (codes "resize", OneUnit s.w ∷ OneUnit s.h ∷ [], form.Nothing)
event_spelled event.Ask = (codes "ask", [], form.Nothing)
event_spelled event.Hangup = (codes "hangup", [], form.Nothing)
event_spelled event.Drained = (codes "drained", [], form.Nothing)
event_spelled event.Paint = (codes "paint", [], form.Nothing)

abbrev pub form_of : Event → Form
form_of e = (event_spelled e).2
