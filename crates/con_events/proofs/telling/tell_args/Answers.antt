use Rattle.std.proofs.Common.{rules}
use Rattle.con_events.proofs.telling.tell_args.Goals as goal

pub returns-in-CursorInfo : goal.returns-in-CursorInfo
returns-in-CursorInfo g c = search rules
