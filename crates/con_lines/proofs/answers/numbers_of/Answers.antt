use Rattle.std.proofs.Common.{◌≡◌, ap, ◌∙◌, rules, w64, to_z, of_z, to_z-of_z}
use Rattle.std.specs.Prelude.{Some}
use Rattle.serde_json.specs.View.{items_view}
use Rattle.con_lines.specs.Told.{all_in, whole_in}
use Rattle.con_lines.proofs.Fronts.{item_read, no_item, items_read}
use Rattle.con_lines.proofs.answers.numbers_of.Goals as goal

pub loop-item-preserved : goal.loop-item-preserved
loop-item-preserved c =
    let n : to_z w64 (of_z w64 c.in-Some.n) ≡ c.in-Some.n = to_z-of_z {w = w64} {z = c.in-Some.n} (search rules) in
    rw c.in-Ok.ensures.items
    (item_read whole_in c.loop-item.numbers.items c.args.items.now c.loop-item.item-index c.item-item.result (to_z w64 (of_z w64 c.in-Some.n))
    (all_in whole_in (items_view c.args.items.now)) c.loop-item-test.true c.item-item.is (ap Some n ∙ c.in-Some.ensures) c.loop-item.invariant)

pub returns-in_default-clause-form : goal.returns-in_default-clause-form
returns-in_default-clause-form c =
    λ _. no_item whole_in c.loop-item.numbers.items c.args.items.now c.loop-item.item-index c.item-item.result
    (all_in whole_in (items_view c.args.items.now)) c.loop-item-test.true c.item-item.is c.in_default.ensures c.loop-item.invariant

pub returns-clause-ok : goal.returns-clause-ok
returns-clause-ok c =
    items_read whole_in c.loop-item.numbers.items c.args.items.now c.loop-item.item-index (all_in whole_in (items_view c.args.items.now))
    c.loop-item-test.false c.loop-item.invariant
