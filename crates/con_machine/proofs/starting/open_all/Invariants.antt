use Rattle.std.proofs.Common.{◌≡◌, ◌+◌, ◌++◌, drop}
use Rattle.con_handles.specs.Tables.{IsTable}
use Rattle.con_machine.specs.Opened.{AreBefore}
use Rattle.con_machine.specs.State.{handles_from}
use Rattle.con_machine.proofs.starting.open_all.Given as goal

abbrev pub invariant-loop-i : goal.invariant-loop-i
invariant-loop-i l = (l.handles.open_ones ++ handles_from (l.i + 1) (drop l.i l.scripts) ≡ handles_from 1 l.scripts) × AreBefore (l.i + 1) l.handles.open_ones × IsTable l.handles.open_ones
