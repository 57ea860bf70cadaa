-- None, or all at once.
use Rattle.std.proofs.Common.{arith}
use Rattle.con_term.proofs.EndLemmas.{none_done, ends_done}
use Rattle.con_term.proofs.page.Page.end_rows.Goals as goal

pub returns-then-ends-eq0-clause-done : goal.returns-then-ends-eq0-clause-done
returns-then-ends-eq0-clause-done c = none_done _

pub returns-clause-done : goal.returns-clause-done
returns-clause-done c = let e = c.ends_at_front-ends in
    ends_done c.args.self.now _ c.args.bytes.now e.result.count e.result.feeds c.is_page.ensures (omega (arith, c.if-ends-eq0.false)) e.ensures.few e.ensures.ends e.ensures.feeds c.end.ensures
