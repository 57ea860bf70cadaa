use Rattle.std.proofs.Common.{arith}
use Rattle.con_dump.proofs.DecodeLemmas.{all_below_more, all_ascii}
use Rattle.con_dump.proofs.units.is_ascii.Goals as goal

pub loop-byte-preserved : goal.loop-byte-preserved
loop-byte-preserved c = rw c.greater-most.ensures (all_below_more c.args.bytes.now c.loop-byte.byte-index c.loop-byte.most c.loop-byte-test.true c.loop-byte.invariant)

pub returns : goal.returns
returns c = λ low. all_ascii c.args.bytes.now c.loop-byte.byte-index c.loop-byte.most (omega (arith, c.loop-byte-test.false)) low c.loop-byte.invariant
