-- What stands at the front, again.
use Rattle.std.proofs.Common.{◌∙◌, refl, arith}
use Rattle.con_dump.proofs.DecodeLemmas.{units_none, held_none, units_on, held_on}
use Rattle.con_term.proofs.PlayLemmas.{run_fits}
use Rattle.con_dump.proofs.units.decode_each.Goals as goal

pub loop-at-init : goal.loop-at-init
loop-at-init c = record {
  units = units_none c.args.units.now.items c.args.decoder.now c.args.bytes.now;
  held = held_none c.args.decoder.now c.args.bytes.now;
  inside = omega arith;
  few = omega arith;
  capacity = refl;
}

pub loop-at-preserved : goal.loop-at-preserved
loop-at-preserved c = let v = c.loop-at.invariant in let front = c.decode_front-at.ensures in record {
  units = units_on c.args.units.now.items c.loop-at.units.items _ c.args.decoder.now c.loop-at.decoder c.args.bytes.now c.loop-at.at c.decode_front-at.result v.units v.held front.units;
  held = held_on c.args.decoder.now c.loop-at.decoder _ c.args.bytes.now c.loop-at.at c.decode_front-at.result v.held front.held;
  inside = run_fits c.args.bytes.now c.loop-at.at c.decode_front-at.result v.inside front.inside;
  few = omega (arith, front.few, v.few);
  capacity = front.capacity ∙ v.capacity;
}
