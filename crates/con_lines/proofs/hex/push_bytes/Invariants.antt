use Rattle.std.proofs.Common.{◌≡◌, ◌++◌, drop}
use Rattle.con_lines.specs.Hex.{hex_bytes}
use Rattle.con_lines.proofs.hex.push_bytes.Given as goal

abbrev pub invariant-loop-byte : goal.invariant-loop-byte
invariant-loop-byte l = l.out.items ++ hex_bytes (drop l.byte-index l.bytes) ≡ l.initial.out.items ++ hex_bytes l.bytes
