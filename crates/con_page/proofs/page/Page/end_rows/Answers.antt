-- None, or all at once.
use Rattle.std.proofs.Common.{arith}
use Rattle.con_page.proofs.EndLemmas.{none_ended, ends_done}
use Rattle.con_page.proofs.page.Page.end_rows.Goals as goal

pub returns-then-not-can_end-clause-effect : goal.returns-then-not-can_end-clause-effect
returns-then-not-can_end-clause-effect c = none_ended _

pub returns-then-ends-eq0-clause-effect : goal.returns-then-ends-eq0-clause-effect
returns-then-ends-eq0-clause-effect c = none_ended _

pub returns-clause-effect : goal.returns-clause-effect
returns-clause-effect c = let e = c.ends_at_front-ends in
    ends_done c.args.self.now _ c.args.units.now e.result.count e.result.feeds c.requires.page (c.can_end.ensures c.if-not-can_end.false) (omega (arith, c.if-ends-eq0.false)) e.ensures.count e.ensures.all e.ensures.feeds c.end.ensures.effect
