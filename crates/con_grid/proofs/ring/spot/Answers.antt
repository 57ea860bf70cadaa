use Rattle.std.proofs.Common.{◌≡◌, ◌+◌, ◌<◌, length, arith}
use Rattle.std.proofs.lemmas.Grind.{common_steps}
use Rattle.con_grid.proofs.RingLemmas.{low_spot, high_spot}
use Rattle.con_grid.proofs.ring.spot.Goals as goal

pub returns-then-from-seam : goal.returns-then-from-seam
returns-then-from-seam c =
    let e : c.len.result ≡ length c.args.block.now.items = grind (arith, common_steps) in
    let low : c.args.top + c.args.from < length c.args.block.now.items = omega (arith, e, c.if-from-seam.true, c.requires.first) in
    low_spot c.args.block.now.items c.args.top c.args.from c.args.upto c.requires.first c.requires.order (omega (arith, c.requires.side low))

pub returns-else-from-seam : goal.returns-else-from-seam
returns-else-from-seam c =
    let e : c.len.result ≡ length c.args.block.now.items = grind (arith, common_steps) in
    rw e (high_spot c.args.block.now.items c.args.top c.args.from c.args.upto c.requires.first c.requires.order c.requires.inside (omega (arith, e, c.if-from-seam.false)))
