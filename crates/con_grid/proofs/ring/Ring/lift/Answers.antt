use Rattle.std.proofs.Common.{◌≡◌, ◌≤◌, ◌<◌, ◌+◌, ◌-◌, List, length, ap, ◌∙◌, arith}
use Rattle.std.proofs.lemmas.Grind.{common_steps}
use Rattle.con_units.specs.Glyph.{Glyph}
use Rattle.con_grid.specs.Ring.{turned}
use Rattle.con_grid.proofs.StampLemmas.{whole}
use Rattle.con_grid.proofs.RingLemmas.{lift_turns, lift_wraps, lifted_few}
use Rattle.con_grid.proofs.ring.Ring.lift.Goals as goal

pub returns-then-by-seam : goal.returns-then-by-seam
returns-then-by-seam c =
    let now = whole c.self.inside.block.len c.self.inside.block.items c.fill.new.cells (c.fill.auto.cells ∙ c.deref_mut.ensures.len) in
    let is = rw c.deref_mut.ensures.value at c.fill.ensures in
    let count : c.len-count.result ≡ length c.self.inside.block.items = grind (arith, common_steps) in
    let few : c.lesser-by.result ≤ length c.self.inside.block.items - c.self.inside.top = omega (arith, count, c.if-by-seam.true) in
    let long : length c.fill.new.cells ≡ c.len-count.result = c.fill.auto.cells ∙ c.deref_mut.ensures.len ∙ grind (arith, common_steps) in
    rw now
    (c.around-self-inside.ensures.same c.fill.new.cells long ∙ ap (λ (xs : List Glyph). turned xs (c.self.inside.top + c.lesser-by.result)) is
    ∙ lift_turns c.self.inside.block.items c.self.inside.top c.lesser-by.result c.args.cell c.self.invariant few
    ∙ lifted_few c.self.inside.block.items c.args.self.now c.self.inside.top c.args.by c.len-count.result c.lesser-by.result c.args.cell c.self.view_is c.lesser-by.ensures count)

pub returns-else-by-seam : goal.returns-else-by-seam
returns-else-by-seam c =
    let now = whole c.self.inside.block.len c.self.inside.block.items c.fill_ends.new.cells (c.fill_ends.auto.cells ∙ c.deref_mut-else-by-seam.ensures.len) in
    let is = rw c.deref_mut-else-by-seam.ensures.value at c.fill_ends.ensures in
    let count : c.len-count.result ≡ length c.self.inside.block.items = grind (arith, common_steps) in
    let few : c.lesser-by.result ≤ length c.self.inside.block.items = omega (arith, count, c.lesser-by.ensures) in
    let over : length c.self.inside.block.items - c.self.inside.top < c.lesser-by.result = omega (arith, count, c.if-by-seam.false) in
    rw now
    (ap (λ (xs : List Glyph). turned xs (c.lesser-by.result - (c.len-count.result - c.self.inside.top))) is
    ∙ rw count (lift_wraps c.self.inside.block.items c.self.inside.top c.lesser-by.result c.args.cell c.self.invariant few over)
    ∙ lifted_few c.self.inside.block.items c.args.self.now c.self.inside.top c.args.by c.len-count.result c.lesser-by.result c.args.cell c.self.view_is c.lesser-by.ensures count)
