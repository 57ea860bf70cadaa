use Rattle.std.proofs.Common.{rules}
use Rattle.con_screens.proofs.resize.resize_buffer.Goals as goal

pub returns-clause-buffer : goal.returns-clause-buffer
returns-clause-buffer c = search rules
