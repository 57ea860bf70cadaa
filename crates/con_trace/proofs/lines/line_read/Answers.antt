use Rattle.con_trace.proofs.Neither.{clash, unread}
use Rattle.con_trace.proofs.lines.line_read.Goals as goal

pub returns-else-is_memory : goal.returns-else-is_memory
returns-else-is_memory c = unread c.args.line.now (c.in-Err.ensures.err (λ m. clash c.is_memory.result c.if-is_memory.false (c.is_memory.ensures.1 m)))
