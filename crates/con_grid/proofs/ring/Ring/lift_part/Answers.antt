use Rattle.std.proofs.Common.{◌≡◌, ◌-◌, List, length, ap, arith, ◌∙◌}
use Rattle.std.proofs.lemmas.Grind.{common_steps}
use Rattle.con_units.specs.Glyph.{Glyph}
use Rattle.con_grid.specs.Picture.{part_lifted}
use Rattle.con_grid.proofs.RingLemmas.{in_block, part_lift_is, part_lift_few, part_all, length-turned}
use Rattle.con_grid.proofs.ring.Ring.lift_part.Goals as goal

pub overflow_sub-rest-2 : goal.overflow_sub-rest-2
overflow_sub-rest-2 c =
    let e : c.len.result ≡ length c.self.inside.block.items = grind (arith, common_steps) in
    let inside = in_block c.self.inside.block.items c.args.self.now c.self.inside.top c.args.upto c.self.view_is c.requires.inside in
    omega (arith, e, inside)

pub lift_most-self-inside-requires-clause-inside : goal.lift_most-self-inside-requires-clause-inside
lift_most-self-inside-requires-clause-inside c = in_block c.self.inside.block.items c.args.self.now c.self.inside.top c.args.upto c.self.view_is c.requires.inside

pub copy_up-requires-clause-inside : goal.copy_up-requires-clause-inside
copy_up-requires-clause-inside c =
    let inside = in_block c.self.inside.block.items c.args.self.now c.self.inside.top c.args.upto c.self.view_is c.requires.inside in
    omega (arith, inside, c.requires.order, c.lesser-by.ensures)

pub fill-requires-clause-inside : goal.fill-requires-clause-inside
fill-requires-clause-inside c =
    let inside = in_block c.self.inside.block.items c.args.self.now c.self.inside.top c.args.upto c.self.view_is c.requires.inside in
    omega (arith, inside, c.copy_up.ensures.len)

pub returns-then-rest-eq0 : goal.returns-then-rest-eq0
returns-then-rest-eq0 c =
    let e : c.len.result ≡ length c.self.inside.block.items = grind (arith, common_steps) in
    let long : length c.self.inside.block.items ≡ length c.args.self.now = omega (arith, length-turned c.self.inside.block.items c.self.inside.top, ap length c.self.view_is) in
    let all : c.args.upto - c.args.from ≡ length c.args.self.now = omega (arith, e, long, c.if-rest-eq0.true, c.requires.inside) in
    part_all c.args.self.now _ c.args.from c.args.upto c.args.by c.args.cell c.requires.order c.requires.inside all c.lift.ensures

pub returns-then-rest-upto : goal.returns-then-rest-upto
returns-then-rest-upto c =
    part_lift_few c.args.self.now _ c.args.from c.args.upto c.args.by c.lesser-by.result c.args.cell c.requires.order c.requires.inside c.lesser-by.ensures
    (c.lift_most-self-inside.ensures.cells ∙ ap (λ (xs : List Glyph). part_lifted xs c.args.from c.args.upto c.lesser-by.result c.args.cell) c.self.view_is)

pub returns : goal.returns
returns c = part_lift_is _ _ _ c.args.self.now _ c.args.from c.args.upto c.args.by _ c.args.cell c.self.view_is c.copy_up.ensures.cells c.fill.ensures.cells c.requires.order c.requires.inside c.lesser-by.ensures
