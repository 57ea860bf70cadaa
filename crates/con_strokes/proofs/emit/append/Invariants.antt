-- The bytes so far.
use Rattle.std.proofs.Common.{◌≡◌, ◌++◌, ◌+◌, take}
use Rattle.std.specs.Vec.{vec_len, vec_capacity}
use Rattle.con_strokes.proofs.emit.append.Given as goal

abbrev pub invariant-loop-byte : goal.invariant-loop-byte
invariant-loop-byte l = (l.out.items ≡ l.fn.out.items ++ take l.byte-index l.bytes) × (vec_capacity l.out ≡ vec_capacity l.fn.out) × (vec_len l.out ≡ vec_len l.fn.out + l.byte-index)
