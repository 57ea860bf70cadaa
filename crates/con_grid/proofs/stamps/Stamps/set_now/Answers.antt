use Rattle.con_grid.proofs.StampLemmas.{raised_bound}
use Rattle.con_grid.proofs.stamps.Stamps.set_now.Goals as goal

pub invariant_of-self : goal.invariant_of-self
invariant_of-self c =
    let low = rw (← c.self.view_is) at c.requires in
    raised_bound (record { now = c.self.inside.number; rows = c.self.inside.rows.items }) c.args.number c.self.invariant low
