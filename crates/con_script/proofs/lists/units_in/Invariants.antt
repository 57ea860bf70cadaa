use Rattle.std.proofs.Common.{◌≡◌, drop}
use Rattle.serde_json.specs.View.{items_view}
use Rattle.con_document.specs.Values.{units_items}
use Rattle.con_values.specs.Cursors.{with_front}
use Rattle.con_script.proofs.lists.units_in.Given as goal

abbrev pub invariant-loop-item : goal.invariant-loop-item
invariant-loop-item l = with_front l.units.items (units_items (items_view (drop l.item-index l.items))) ≡ units_items (items_view l.items)
