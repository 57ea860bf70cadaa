-- The records so far.
use Rattle.std.proofs.Common.{◌≡◌, ◌+◌, ◌++◌, take, vec_len, vec_capacity}
use Rattle.con_records.proofs.records.Records.peek.Given as goal

abbrev pub invariant-loop-i : goal.invariant-loop-i
invariant-loop-i l = record { out : l.out.items ≡ l.fn.out.items ++ take l.i l.fn.self.items; room : vec_capacity l.out ≡ vec_capacity l.fn.out; len : vec_len l.out ≡ vec_len l.fn.out + l.i }
