-- A chunk of ASCII with nothing held.
use Rattle.std.proofs.Common.{sym, take, ◌∙◌}
use Rattle.con_dump.proofs.DecodeLemmas.{run_units, run_held}
use Rattle.con_dump.proofs.units.decode_chunk.Goals as goal

pub returns-then-is_ascii-clause-units : goal.returns-then-is_ascii-clause-units
returns-then-is_ascii-clause-units c = run_units c.args.units.now.items _ c.args.decoder.now (take c.min-len.result c.args.bytes.now) (sym c.if-held-eq0.true ∙ c.held.ensures) (c.is_ascii.ensures c.if-is_ascii.true) c.push_bytes.ensures.units

pub returns-then-is_ascii-clause-held : goal.returns-then-is_ascii-clause-held
returns-then-is_ascii-clause-held c = run_held c.args.decoder.now (take c.min-len.result c.args.bytes.now) (sym c.if-held-eq0.true ∙ c.held.ensures) (c.is_ascii.ensures c.if-is_ascii.true)
