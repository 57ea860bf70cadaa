use Rattle.std.proofs.Common.{ap, ◌∙◌}
use Rattle.std.specs.Prelude.{option_and_then}
use Rattle.con_lines.specs.Told.{said_in}
use Rattle.con_trace.proofs.lines.told.Goals as goal

pub event_told-requires : goal.event_told-requires
event_told-requires c = ap (option_and_then said_in) c.requires ∙ c.in-Ok.ensures.ok
