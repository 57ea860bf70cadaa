use Rattle.std.proofs.Common.{◌∙◌}
use Rattle.con_machine.proofs.First.{starts_few, opening_counted}
use Rattle.con_machine.proofs.parts.Parts.new.Goals as goal

pub new-requires : goal.new-requires
new-requires c = starts_few c.scripts-scripts.result.now c.args.racks.now c.as_slice.result.now c.scripts-scripts.ensures.within (c.as_slice.ensures.value ∙ c.in_ok-starts.ensures)

pub invariant_of-result : goal.invariant_of-result
invariant_of-result c = record {
  buffers = c.in_ok-screens.ensures.kept;
  counted = opening_counted c.in_ok-screens.screens _ _ c.scripts-scripts.result.now c.in_ok-handles.handles.open_ones c.in_ok-screens.ensures.buffers c.in_ok-handles.ensures.open;
  handles = c.in_ok-handles.ensures.table;
  seen_was = tt;
}
