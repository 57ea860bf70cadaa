use Rattle.std.proofs.Common.{arith, ◌≡◌, ◌<◌, ◌+◌, ◌*◌, nat_lt, length, List, sym, ap, ◌∙◌, slice_get, Some}
use Rattle.std.proofs.lemmas.Bool.{and_parts, ltb-true}
use Rattle.con_units.specs.Glyph.{Glyph}
use Rattle.con_rects.proofs.ReadLemmas.{read_so, read_more, read_row, read_next, read_room, read_picture}
use Rattle.con_rects.specs.Parts.{as_read}
use Rattle.con_rects.proofs.reads.read_area.Goals as goal

pub loop-x-init : goal.loop-x-init
loop-x-init c =
    let a = c.args.area.now in
    (c.loop-y.invariant.0 ∙ sym (read_row (as_read c.args.grid.now) a.left a.right a.top c.loop-y.y), c.loop-y.invariant.1)

pub push_reserved-requires : goal.push_reserved-requires
push_reserved-requires c =
    let a = c.args.area.now in
    let room = read_room (as_read c.args.grid.now) a.left a.right a.top a.bottom c.loop-x.x c.loop-y.y (read_picture c.args.grid.now c.size-width.ensures.picture) c.loop-x.auto.x c.loop-x-test.true c.requires.right c.loop-y.auto.y c.loop-y-test.true c.requires.bottom in
    omega (arith, room, ap (λ (l : List Glyph). length l) c.loop-x.invariant.0, c.loop-x.invariant.1, c.requires.spare)

pub loop-x-preserved : goal.loop-x-preserved
loop-x-preserved c =
    let p = as_read c.args.grid.now in
    let a = c.args.area.now in
    let y_in : c.loop-y.y < p.height = omega (arith, c.loop-y-test.true, c.requires.bottom) in
    let read : slice_get p.cells (c.loop-y.y * p.width + c.loop-x.x) ≡ Some c.read_cell.result = ap (λ w. slice_get p.cells (c.loop-y.y * w + c.loop-x.x)) (sym c.size-width.ensures.width) ∙ c.read_cell.ensures in (
      read_more p a.left a.right a.top c.loop-x.x c.loop-y.y c.read_cell.result c.loop-x.out.items c.push_reserved.new.self.items (read_picture c.args.grid.now c.size-width.ensures.picture) c.loop-x.auto.x c.loop-x-test.true c.requires.right y_in
          read c.loop-x.invariant.0 c.push_reserved.ensures.items,
      c.push_reserved.ensures.capacity ∙ c.loop-x.invariant.1,
    )

pub loop-y-preserved : goal.loop-y-preserved
loop-y-preserved c =
    let p = as_read c.args.grid.now in
    let a = c.args.area.now in
    let some : a.left < a.right = ltb-true a.left a.right (and_parts (nat_lt a.left a.right) (nat_lt a.top a.bottom) c.requires.some).0 in
    let end : c.loop-x.x ≡ a.right = omega (arith, some, c.loop-x.auto.x-end, c.loop-x-test.false) in
    (c.loop-x.invariant.0 ∙ ap (λ x. read_so p a.left a.right a.top x c.loop-y.y) end ∙ read_next p a.left a.right a.top c.loop-y.y c.loop-y.auto.y, c.loop-x.invariant.1)
