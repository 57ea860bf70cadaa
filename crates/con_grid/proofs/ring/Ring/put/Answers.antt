use Rattle.std.proofs.Common.{◌+◌, arith}
use Rattle.con_grid.proofs.RingLemmas.{in_block}
use Rattle.con_grid.proofs.ring.Ring.put.Goals as goal

pub index-at-requires-clause-inside : goal.index-at-requires-clause-inside
index-at-requires-clause-inside c = let h = in_block c.self.inside.block.items c.args.self.now c.self.inside.top (c.args.at + 1) c.self.view_is (omega (arith, c.requires)) in omega (arith, h)

pub returns : goal.returns
returns c = rw (← c.self.view_is) (c.index-at.ensures.set c.args.cell)
