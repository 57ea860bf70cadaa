use Rattle.std.proofs.Common.{◌∙◌, refl, arith}
use Rattle.con_dump.proofs.DecodeLemmas.{pushed_more, pushed_none, pushed_all}
use Rattle.con_dump.proofs.units.push_bytes.Goals as goal

pub loop-byte-init : goal.loop-byte-init
loop-byte-init c = record { units = pushed_none c.args.units.now.items; few = omega arith; capacity = refl }

pub loop-byte-preserved : goal.loop-byte-preserved
loop-byte-preserved c = record {
  units = pushed_more c.args.units.now.items c.loop-byte.units.items _ c.args.bytes.now c.loop-byte.byte-index _ c.loop-byte-test.true c.loop-byte.invariant.units refl c.push_reserved.ensures.items;
  few = omega (arith, c.push_reserved.ensures.len, c.loop-byte.invariant.few);
  capacity = c.push_reserved.ensures.capacity ∙ c.loop-byte.invariant.capacity;
}

pub returns-clause-units : goal.returns-clause-units
returns-clause-units c = pushed_all c.args.units.now.items c.loop-byte.units.items c.args.bytes.now c.loop-byte.byte-index (omega (arith, c.loop-byte-test.false)) c.loop-byte.invariant.units
