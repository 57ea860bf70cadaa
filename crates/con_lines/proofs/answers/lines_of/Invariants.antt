use Rattle.std.proofs.Common.{◌≡◌, drop}
use Rattle.serde_json.specs.View.{items_view}
use Rattle.con_values.specs.Cursors.{with_front}
use Rattle.con_lines.specs.Told.{all_in, units_in}
use Rattle.con_lines.proofs.answers.lines_of.Given as goal

abbrev pub invariant-loop-item : goal.invariant-loop-item
invariant-loop-item l = with_front l.lines.items (all_in units_in (items_view (drop l.item-index l.items))) ≡ all_in units_in (items_view l.items)
