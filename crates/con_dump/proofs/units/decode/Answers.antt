-- Chunk by chunk.
use Rattle.std.proofs.Common.{◌≡◌, [], ◌∙◌, arith, rules}
use Rattle.con_dump.proofs.DecodeLemmas.{units_none, held_none, units_on, held_on, units_all, held_all}
use Rattle.con_term.proofs.PlayLemmas.{run_fits}
use Rattle.con_dump.proofs.units.decode.Goals as goal

pub loop-at-init : goal.loop-at-init
loop-at-init c = let none : c.replace-list.result.items ≡ [] = search rules in record {
  units = none ∙ units_none [] c.args.decoder.now c.args.bytes.now;
  held = held_none c.args.decoder.now c.args.bytes.now;
  inside = omega arith;
  few = search rules;
  capacity = search rules;
}

pub loop-at-preserved : goal.loop-at-preserved
loop-at-preserved c = let v = c.loop-at.invariant in let chunk = c.decode_chunk-at.ensures in record {
  units = units_on [] c.loop-at.list.items _ c.args.decoder.now c.loop-at.decoder c.args.bytes.now c.loop-at.at c.decode_chunk-at.result v.units v.held chunk.units;
  held = held_on c.args.decoder.now c.loop-at.decoder _ c.args.bytes.now c.loop-at.at c.decode_chunk-at.result v.held chunk.held;
  inside = run_fits c.args.bytes.now c.loop-at.at c.decode_chunk-at.result v.inside chunk.inside;
  few = omega (arith, chunk.few, v.few);
  capacity = chunk.capacity ∙ v.capacity;
}

pub returns-clause-units : goal.returns-clause-units
returns-clause-units c = units_all c.loop-at.list.items c.args.decoder.now c.args.bytes.now c.loop-at.at (omega (arith, c.loop-at-test.false)) c.loop-at.invariant.units

pub returns-clause-held : goal.returns-clause-held
returns-clause-held c = held_all c.args.decoder.now c.loop-at.decoder c.args.bytes.now c.loop-at.at (omega (arith, c.loop-at-test.false)) c.loop-at.invariant.held
