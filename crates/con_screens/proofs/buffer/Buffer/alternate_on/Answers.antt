use Rattle.std.proofs.Common.{rules}
use Rattle.con_screens.proofs.buffer.Buffer.alternate_on.Goals as goal

pub returns-then-not-self-clause-buffer : goal.returns-then-not-self-clause-buffer
returns-then-not-self-clause-buffer c = search rules
