use Rattle.std.proofs.Common.{refl}
use Rattle.serde_json.specs.Read.{read}
use Rattle.con_trace.proofs.Neither.{clash, said_is_line, other_said}
use Rattle.con_trace.proofs.lines.event_told.Goals as goal

pub returns-then-same : goal.returns-then-same
returns-then-same c = (said_is_line (read c.args.line.now) c.args.said c.requires, c.in-Ok.ensures.0 c.if-same.true)

pub returns-else-same : goal.returns-else-same
returns-else-same c = other_said c.args.line.now (read c.args.line.now) c.args.said refl c.requires
    (λ e. clash c.in-Ok.same c.if-same.false (c.in-Ok.ensures.1 e))
