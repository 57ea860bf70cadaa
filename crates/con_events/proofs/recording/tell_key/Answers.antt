use Rattle.std.proofs.Common.{rules}
use Rattle.con_events.proofs.recording.tell_key.Goals as goal

pub returns : goal.returns
returns g c = search rules
