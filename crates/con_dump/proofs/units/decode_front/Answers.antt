-- One byte, ASCII, or a character.
use Rattle.std.proofs.Common.{◌∙◌, take, sym, arith}
use Rattle.con_dump.proofs.DecodeLemmas.{byte_units, byte_held, run_units, run_held, front_units, front_held, front_some}
use Rattle.con_dump.proofs.units.decode_front.Goals as goal

pub returns-clause-units : goal.returns-clause-units
returns-clause-units c = byte_units _ _ c.args.decoder.now c.args.bytes.now (omega arith) c.decode_byte.ensures.units

pub returns-clause-held : goal.returns-clause-held
returns-clause-held c = byte_held c.args.decoder.now _ c.args.bytes.now (omega arith) c.decode_byte.ensures.held

pub returns-then-bytes-lt128-clause-units : goal.returns-then-bytes-lt128-clause-units
returns-then-bytes-lt128-clause-units c = run_units c.args.units.now.items _ c.args.decoder.now (take c.push_run.result c.args.bytes.now) (sym c.if-held-eq0.true ∙ c.held.ensures) c.push_run.ensures.ascii c.push_run.ensures.units

pub returns-then-bytes-lt128-clause-held : goal.returns-then-bytes-lt128-clause-held
returns-then-bytes-lt128-clause-held c = run_held c.args.decoder.now (take c.push_run.result c.args.bytes.now) (sym c.if-held-eq0.true ∙ c.held.ensures) c.push_run.ensures.ascii

pub returns-in-Some-clause-units : goal.returns-in-Some-clause-units
returns-in-Some-clause-units c = front_units c.args.units.now.items _ c.args.decoder.now c.args.bytes.now c.in-Some.front (sym c.if-held-eq0.true ∙ c.held.ensures) c.in-Some.ensures c.push_character.ensures.units

pub returns-in-Some-clause-held : goal.returns-in-Some-clause-held
returns-in-Some-clause-held c = front_held c.args.decoder.now c.args.bytes.now c.in-Some.front (sym c.if-held-eq0.true ∙ c.held.ensures) c.in-Some.ensures

pub returns-in-Some-clause-more : goal.returns-in-Some-clause-more
returns-in-Some-clause-more c = front_some c.args.bytes.now c.in-Some.front c.in-Some.ensures

pub returns-in-Some-clause-few : goal.returns-in-Some-clause-few
returns-in-Some-clause-few c = omega (arith, c.push_character.ensures.few, front_some c.args.bytes.now c.in-Some.front c.in-Some.ensures)
