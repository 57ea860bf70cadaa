use Rattle.std.proofs.Common.{refl}
use Rattle.std.specs.Fork.{ChangesAt}
use Rattle.con_run.proofs.InRow.{became_at}
use Rattle.con_run.proofs.abreast.each_beside.Goals as goal

pub returns : goal.returns
returns g c = λ i d lt. (refl, became_at (ChangesAt g.F.Fn c.args.f.now) c.args.row.now c.from.new.row i d lt c.from.ensures)
