-- What is still to be taken.
use Rattle.std.proofs.Common.{◌≡◌, ◌-◌, ◌++◌, vec_len, vec_capacity, length}
use Rattle.con_readers.specs.Wants.{units_of, rest_of}
use Rattle.con_readers.proofs.wants_units.take_units.Given as goal

abbrev pub invariant-loop-records : goal.invariant-loop-records
invariant-loop-records l = record {
  units : l.out.items ++ units_of (l.n - vec_len l.out) l.records.items ≡ units_of l.n l.fn.records.items;
  rest : rest_of (l.n - vec_len l.out) l.records.items ≡ rest_of l.n l.fn.records.items;
  spare : l.records.spare ≡ l.fn.records.spare;
  room : vec_capacity l.out ≡ vec_capacity l.fn.out;
}

abbrev pub decreases-loop-records : goal.decreases-loop-records
decreases-loop-records l = length l.records.items
