-- The words of the code and of laws about Form, which a reader need not believe.
use Rattle.std.specs.Prelude.{ℕ, List}
use Rattle.con_events.specs.Table.{spelled}
use Rattle.con_events.specs.declared.call.Call.{Call}
use Rattle.con_events.specs.declared.event.Event.{Event}
use Rattle.con_events.specs.declared.form.Form.{Form}
use Rattle.con_lines.specs.Form.{event_spelled}

abbrev pub event_name : Event → List ℕ
event_name e = (event_spelled e).0

abbrev pub call_form : Call → Form
call_form c = (spelled c).2
