use Rattle.std.proofs.Common.{◌∙◌}
use Rattle.con_grid.proofs.StampLemmas.{whole, written_bound}
use Rattle.con_grid.proofs.stamps.Stamps.stamp_rows.Goals as goal

pub invariant_of-self : goal.invariant_of-self
invariant_of-self c =
    let now = whole c.self.inside.rows.len c.self.inside.rows.items c.write.new.rows (c.write.auto.rows ∙ c.deref_mut.ensures.len) in
    let is = rw c.deref_mut.ensures.value at c.write.ensures in
    let inside = rw (← c.self.view_is) at c.requires.inside in
    rw now (written_bound (record { now = c.self.inside.number; rows = c.self.inside.rows.items }) c.args.from c.args.upto _ c.self.invariant c.requires.order inside is)
