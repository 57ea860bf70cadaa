-- The bytes so far.
use Rattle.std.proofs.Common.{◌≡◌, ◌≤◌, ◌<◌, ◌+◌, ◌-◌, ◌++◌, true, take}
use Rattle.std.specs.Prelude.{vec_len, vec_capacity}
use Rattle.std.specs.List.{list_all}
use Rattle.con_term.specs.Ascii.{is_ascii_byte}
use Rattle.con_dump.proofs.units.push_run.Given as goal

abbrev pub invariant-loop-count : goal.invariant-loop-count
invariant-loop-count l = record {
  more : 0 < l.count;
  inside : l.count ≤ l.most;
  ascii : list_all is_ascii_byte (take l.count l.bytes) ≡ true;
  units : l.units.items ≡ l.fn.units.items ++ take l.count l.bytes;
  few : vec_len l.units ≡ vec_len l.fn.units + l.count;
  capacity : vec_capacity l.units ≡ vec_capacity l.fn.units;
}

abbrev pub decreases-loop-count : goal.decreases-loop-count
decreases-loop-count l = l.most - l.count
