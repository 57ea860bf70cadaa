use Rattle.std.proofs.Common.{◌≡◌, ◌≤◌, ◌-◌, length, true}
use Rattle.std.specs.Prelude.{flat_map}
use Rattle.std.specs.List.{list_all}
use Rattle.con_outside.specs.Outside.{then_left}
use Rattle.con_link.specs.Frames.{spelling, is_frame, goes_on}
use Rattle.con_link.proofs.all.all_frames.Given as goal

abbrev pub invariant-reading : goal.invariant-reading
invariant-reading g l = record {
  taken : g.I.Source.left l.initial.link ≡ then_left (flat_map spelling l.frames.items) (g.I.Source.left l.link);
  count : l.reader ≡ length (flat_map spelling l.frames.items);
  few : l.reader ≤ 16777216;
  frames : list_all is_frame l.frames.items ≡ true;
  going : list_all goes_on l.frames.items ≡ true;
  never_falls : g.I.Source.faults l.initial.link ≤ g.I.Source.faults l.link;
}

abbrev pub decreases-reading : goal.decreases-reading
decreases-reading g l = 16777217 - l.reader
