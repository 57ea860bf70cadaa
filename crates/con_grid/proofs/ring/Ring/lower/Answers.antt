use Rattle.std.proofs.Common.{◌≡◌, ◌≤◌, ◌-◌, List, length, ap, ◌∙◌, arith}
use Rattle.std.proofs.lemmas.Grind.{common_steps}
use Rattle.con_units.specs.Glyph.{Glyph}
use Rattle.con_grid.specs.Ring.{turned}
use Rattle.con_grid.proofs.StampLemmas.{whole}
use Rattle.con_grid.proofs.RingLemmas.{lower_turns, lower_wraps, lowered_few}
use Rattle.con_grid.proofs.ring.Ring.lower.Goals as goal

pub returns-then-by-self : goal.returns-then-by-self
returns-then-by-self c =
    let now = whole c.self.inside.block.len c.self.inside.block.items c.fill.new.cells (c.fill.auto.cells ∙ c.deref_mut.ensures.len) in
    let is = rw c.deref_mut.ensures.value at c.fill.ensures in
    let count : c.len-count.result ≡ length c.self.inside.block.items = grind (arith, common_steps) in
    rw now
    (ap (λ (xs : List Glyph). turned xs (c.self.inside.top - c.lesser-by.result)) is
    ∙ lower_turns c.self.inside.block.items c.self.inside.top c.lesser-by.result c.args.cell c.self.invariant c.if-by-self.true
    ∙ lowered_few c.self.inside.block.items c.args.self.now c.self.inside.top c.args.by c.len-count.result c.lesser-by.result c.args.cell c.self.view_is c.lesser-by.ensures count)

pub returns-else-by-self : goal.returns-else-by-self
returns-else-by-self c =
    let now = whole c.self.inside.block.len c.self.inside.block.items c.fill_ends.new.cells (c.fill_ends.auto.cells ∙ c.deref_mut-else-by-self.ensures.len) in
    let is = rw c.deref_mut-else-by-self.ensures.value at c.fill_ends.ensures in
    let count : c.len-count.result ≡ length c.self.inside.block.items = grind (arith, common_steps) in
    let few : c.lesser-by.result ≤ length c.self.inside.block.items = omega (arith, count, c.lesser-by.ensures) in
    rw now
    (ap (λ (xs : List Glyph). turned xs (c.len-count.result - (c.lesser-by.result - c.self.inside.top))) is
    ∙ rw count (lower_wraps c.self.inside.block.items c.self.inside.top c.lesser-by.result c.args.cell c.self.invariant few (omega (arith, c.if-by-self.false)))
    ∙ lowered_few c.self.inside.block.items c.args.self.now c.self.inside.top c.args.by c.len-count.result c.lesser-by.result c.args.cell c.self.view_is c.lesser-by.ensures count)
