use Rattle.std.specs.Fork.{AcceptsAt, ChangesAt}
use Rattle.con_run.proofs.InRow.{back_are, both_became, one_became}
use Rattle.con_run.proofs.abreast.+row.Goals as goal

pub from-returns-then-row-eq1 : goal.from-returns-then-row-eq1
from-returns-then-row-eq1 g t c =
    one_became (ChangesAt g.F.Fn c.args.f.now) c.args.base c.args.row.now c.at.new.one c.index-row-0.result c.if-row-eq1.true c.at.ensures

pub from-halves-requires-clause-back : goal.from-halves-requires-clause-back
from-halves-requires-clause-back g t c κs within =
    let cut = c.split_at_mut-front in
    back_are (AcceptsAt g.F.Fn c.args.f.now) c.args.base _ c.args.row.now _ _ cut.ensures.value cut.ensures.front_len c.requires

pub from-returns : goal.from-returns
from-returns g t c =
    let cut = c.split_at_mut-front in
    both_became
    (ChangesAt g.F.Fn c.args.f.now) c.args.base _ c.args.row.now _ _ _ _ cut.ensures.value cut.ensures.front_len c.halves.ensures.front c.halves.ensures.back
