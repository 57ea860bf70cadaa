use Rattle.std.proofs.Common.{◌≡◌, length, arith}
use Rattle.std.proofs.lemmas.Grind.{common_steps}
use Rattle.con_grid.proofs.RingLemmas.{low_index, high_index}
use Rattle.con_grid.proofs.ring.index.Goals as goal

pub returns-then-at-seam : goal.returns-then-at-seam
returns-then-at-seam c = low_index c.args.block.now.items c.args.top c.args.at c.requires.top (grind (arith, common_steps, c.if-at-seam.true))

pub returns-else-at-seam : goal.returns-else-at-seam
returns-else-at-seam c = let e : c.len.result ≡ length c.args.block.now.items = grind (arith, common_steps) in rw e (high_index c.args.block.now.items c.args.top c.args.at c.requires.top c.requires.inside (grind (arith, common_steps, c.if-at-seam.false)))
