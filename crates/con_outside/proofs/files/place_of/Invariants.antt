use Rattle.std.proofs.Common.{◌≡◌, ◌+◌, ◌-◌, ◌≤◌, drop, length}
use Rattle.std.specs.Prelude.{map, string_bytes}
use Rattle.con_outside.specs.Words.Named.{place_in}
use Rattle.con_outside.proofs.files.place_of.Given as goal

abbrev pub invariant-loop-at : goal.invariant-loop-at
invariant-loop-at l = record {
  within : l.at ≤ length l.names;
  rest : place_in (map string_bytes l.names) l.name ≡ l.at + place_in (map string_bytes (drop l.at l.names)) l.name;
}

abbrev pub decreases-loop-at : goal.decreases-loop-at
decreases-loop-at l = length l.names - l.at
