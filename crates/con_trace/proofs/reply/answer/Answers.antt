use Rattle.std.proofs.Common.{rules}
use Rattle.con_trace.proofs.reply.answer.Goals as goal

pub returns-in-Paint : goal.returns-in-Paint
returns-in-Paint c = search rules
