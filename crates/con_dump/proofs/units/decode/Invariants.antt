-- The bytes so far.
use Rattle.std.proofs.Common.{◌≡◌, ◌≤◌, ◌-◌, ◌*◌, length, take}
use Rattle.std.specs.Prelude.{flat_map, vec_len, vec_capacity}
use Rattle.con_units.specs.Split.{split_after}
use Rattle.con_units.specs.Utf8.{utf8}
use Rattle.con_term.specs.Play.{units_of}
use Rattle.con_dump.proofs.units.decode.Given as goal

abbrev pub invariant-loop-at : goal.invariant-loop-at
invariant-loop-at l = record {
  units : l.list.items ≡ flat_map units_of (split_after utf8 l.initial.decoder (take l.at l.bytes)).items;
  held : l.decoder ≡ (split_after utf8 l.initial.decoder (take l.at l.bytes)).tail;
  inside : l.at ≤ length l.bytes;
  few : vec_len l.list ≤ 4 * l.at;
  capacity : vec_capacity l.list ≡ vec_capacity l.fn.units;
}

abbrev pub decreases-loop-at : goal.decreases-loop-at
decreases-loop-at l = length l.bytes - l.at
