use Rattle.std.proofs.Common.{arith}
use Rattle.con_grid.proofs.PlainLemmas.{plain_front, plain_back}
use Rattle.con_grid.proofs.RingLemmas.{front_units, back_units, units_in_two}
use Rattle.con_grid.proofs.ring.Ring.put_plain.Goals as goal

pub plain_run-requires-clause-run : goal.plain_run-requires-clause-run
plain_run-requires-clause-run c = front_units c.self.inside.block.items c.args.self.now c.self.inside.top c.args.at c.front_count-count.result c.args.units.now c.self.view_is c.self.invariant c.requires.inside c.front_count-count.ensures

pub plain_run-requires-clause-plain : goal.plain_run-requires-clause-plain
plain_run-requires-clause-plain c = plain_front c.args.units.now c.front_count-count.result c.requires.plain

pub plain_run-requires-2-clause-run : goal.plain_run-requires-2-clause-run
plain_run-requires-2-clause-run c = back_units c.self.inside.block.items _ c.args.self.now c.self.inside.top c.args.at c.front_count-count.result c.args.units.now c.self.view_is c.plain_run.ensures.len c.self.invariant c.requires.inside c.front_count-count.ensures

pub plain_run-requires-2-clause-plain : goal.plain_run-requires-2-clause-plain
plain_run-requires-2-clause-plain c = plain_back c.args.units.now c.front_count-count.result c.requires.plain

pub returns : goal.returns
returns c =
    units_in_two c.self.inside.block.items _ _ c.args.self.now c.self.inside.top c.args.at c.front_count-count.result c.args.units.now c.args.attr c.self.view_is c.plain_run.ensures.cells c.plain_run-2.ensures.cells
    (omega (arith, c.front_count-count.ensures)) c.requires.inside
