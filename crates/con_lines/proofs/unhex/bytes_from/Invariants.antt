use Rattle.std.proofs.Common.{◌≡◌, length}
use Rattle.con_values.specs.Cursors.{with_front}
use Rattle.con_lines.specs.Told.{unhex_bytes}
use Rattle.con_lines.proofs.unhex.bytes_from.Given as goal

abbrev pub invariant-loop-rest : goal.invariant-loop-rest
invariant-loop-rest l = with_front l.bytes.items (unhex_bytes l.rest) ≡ unhex_bytes l.text

abbrev pub decreases-loop-rest : goal.decreases-loop-rest
decreases-loop-rest l = length l.rest
