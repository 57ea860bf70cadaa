use Rattle.std.proofs.Common.{arith}
use Rattle.con_grid.proofs.RingLemmas.{front_units, back_units, units_in_two}
use Rattle.con_grid.proofs.ring.Ring.put_units.Goals as goal

pub units_run-requires : goal.units_run-requires
units_run-requires c = front_units c.self.inside.block.items c.args.self.now c.self.inside.top c.args.at c.front_count-count.result c.args.units.now c.self.view_is c.self.invariant c.requires c.front_count-count.ensures

pub units_run-requires-2 : goal.units_run-requires-2
units_run-requires-2 c = back_units c.self.inside.block.items _ c.args.self.now c.self.inside.top c.args.at c.front_count-count.result c.args.units.now c.self.view_is c.units_run.ensures.len c.self.invariant c.requires c.front_count-count.ensures

pub returns : goal.returns
returns c =
    units_in_two c.self.inside.block.items _ _ c.args.self.now c.self.inside.top c.args.at c.front_count-count.result c.args.units.now c.args.attr c.self.view_is c.units_run.ensures.cells c.units_run-2.ensures.cells
    (omega (arith, c.front_count-count.ensures)) c.requires
