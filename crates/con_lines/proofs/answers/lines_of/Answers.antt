use Rattle.std.proofs.Common.{sym}
use Rattle.serde_json.specs.View.{items_view}
use Rattle.con_lines.specs.Told.{all_in, units_in}
use Rattle.con_lines.proofs.Fronts.{item_read, items_read}
use Rattle.con_lines.proofs.answers.lines_of.Goals as goal

pub loop-item-preserved : goal.loop-item-preserved
loop-item-preserved c = rw c.in-Ok.ensures.items
    (item_read units_in c.loop-item.lines.items c.args.items.now c.loop-item.item-index c.item-item.result c.in_ok-line.line
    (all_in units_in (items_view c.args.items.now)) c.loop-item-test.true c.item-item.is (sym c.in_ok-line.ensures.ok) c.loop-item.invariant)

pub returns-clause-ok : goal.returns-clause-ok
returns-clause-ok c =
    items_read units_in c.loop-item.lines.items c.args.items.now c.loop-item.item-index (all_in units_in (items_view c.args.items.now))
    c.loop-item-test.false c.loop-item.invariant
