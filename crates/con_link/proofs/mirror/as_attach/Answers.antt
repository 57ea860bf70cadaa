use Rattle.std.proofs.Common.{rules}
use Rattle.con_link.proofs.mirror.as_attach.Goals as goal

pub returns-in-Ok-Resize : goal.returns-in-Ok-Resize
returns-in-Ok-Resize c = search rules
