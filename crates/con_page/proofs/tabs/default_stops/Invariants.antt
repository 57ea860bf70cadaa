-- The stops so far.
use Rattle.std.proofs.Common.{◌≡◌, ◌≤◌, length}
use Rattle.std.specs.Prelude.{vec_len, vec_capacity}
use Rattle.con_page.specs.Setters.{default_tabs}
use Rattle.con_page.proofs.tabs.default_stops.Given as goal

abbrev pub invariant-loop-at : goal.invariant-loop-at
invariant-loop-at l = record {
  stops : l.stops.items ≡ default_tabs l.at;
  count : length l.stops.items ≡ l.at;
  len : vec_len l.stops ≡ l.at;
  room : l.width ≤ vec_capacity l.stops;
}
