use Rattle.serde_json.specs.View.{view}
use Rattle.con_lines.specs.Last.{last_of}
use Rattle.con_trace.proofs.Neither.{clash, other_ending, tells_nothing}
use Rattle.con_trace.proofs.lines.last_told.Goals as goal

pub returns-else-branch : goal.returns-else-branch
returns-else-branch c = other_ending c.args.line.now (view c.args.value.now) (last_of c.in-Some.last) c.requires.json c.requires.no_event c.in-Some.ensures.told
    (λ e. clash c.in_ok-is_ending_of-in-Some.field-0 c.if-branch.false (c.in_ok-is_ending_of-in-Some.ensures.1 e))

pub returns-in-None : goal.returns-in-None
returns-in-None c = tells_nothing c.args.line.now (view c.args.value.now) c.requires.json c.requires.no_event c.in-None.ensures.told
