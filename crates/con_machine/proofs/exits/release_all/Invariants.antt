-- What is left to be closed comes to the same.
use Rattle.std.proofs.Common.{◌≡◌, Option, length}
use Rattle.std.specs.Prelude.{filter, not}
use Rattle.con_handles.specs.Handles.{is_owned}
use Rattle.con_handles.specs.Tables.{IsTable}
use Rattle.con_screens.specs.Words.Buffers.{AreBuffers}
use Rattle.con_screens.specs.Words.Stamps.{all_remembered}
use Rattle.con_units.specs.declared.view.View.{View}
use Rattle.con_machine.specs.Words.Reads.{released_all}
use Rattle.con_machine.specs.Sound.{AreCounted, IsPainted}
use Rattle.con_machine.proofs.exits.release_all.Given as goal

abbrev pub invariant-loop-object : goal.invariant-loop-object
invariant-loop-object l = record {
  others : filter (λ h. not (is_owned l.p h)) l.handles.open_ones ≡ filter (λ h. not (is_owned l.p h)) l.fn.handles.open_ones;
  buffers : released_all l.screens (filter (is_owned l.p) l.handles.open_ones) ≡ released_all l.fn.screens (filter (is_owned l.p) l.fn.handles.open_ones);
  kept : AreBuffers l.screens;
  counted : AreCounted l.screens l.handles.open_ones;
  table : IsTable l.handles.open_ones;
  painted : (v : Option View) → IsPainted (all_remembered l.fn.screens) l.fn.seen v → IsPainted (all_remembered l.screens) l.seen v;
}

abbrev pub decreases-loop-object : goal.decreases-loop-object
decreases-loop-object l = length (filter (is_owned l.p) l.handles.open_ones)
