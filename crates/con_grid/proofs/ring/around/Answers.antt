use Rattle.std.proofs.Common.{sym, ◌∙◌}
use Rattle.con_grid.proofs.RingLemmas.{turned-none, turned-all}
use Rattle.con_grid.proofs.ring.around.Goals as goal

pub returns-then-top-count-clause-same : goal.returns-then-top-count-clause-same
returns-then-top-count-clause-same c = λ block long. turned-none block ∙ sym (turned-all block c.args.top (c.if-top-count.true ∙ sym long))
