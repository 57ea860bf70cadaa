-- The bytes so far.
use Rattle.std.proofs.Common.{◌≡◌, ◌+◌, ◌++◌, take}
use Rattle.std.specs.Prelude.{vec_len, vec_capacity}
use Rattle.con_dump.proofs.units.push_bytes.Given as goal

abbrev pub invariant-loop-byte : goal.invariant-loop-byte
invariant-loop-byte l = record {
  units : l.units.items ≡ l.initial.units.items ++ take l.byte-index l.bytes;
  few : vec_len l.units ≡ vec_len l.initial.units + l.byte-index;
  capacity : vec_capacity l.units ≡ vec_capacity l.initial.units;
}
