use Rattle.std.proofs.Common.{arith, ◌≡◌, ◌<◌, ◌+◌, ◌*◌, List, length, suc, sym, ap, ◌∙◌, slice_get, Some, append-nil}
use Rattle.std.proofs.lemmas.Nat.{mul-add-lt}
use Rattle.con_units.specs.Glyph.{Glyph}
use Rattle.con_screens.specs.View.{rows_in}
use Rattle.con_screens.proofs.ViewLemmas.{read_so, read_more, read_room}
use Rattle.con_screens.proofs.view.read_window.Goals as goal

pub loop-x-init : goal.loop-x-init
loop-x-init c = (c.loop-y.invariant.0 ∙ sym (append-nil (rows_in c.args.grid.now.width c.args.grid.now.cells c.args.left c.args.top c.args.w c.loop-y.y)), c.loop-y.invariant.1)

pub at-requires : goal.at-requires
at-requires c =
    let g = c.args.grid.now in
    let within = mul-add-lt (c.args.top + c.loop-y.y) g.width (c.args.left + c.loop-x.x) g.height (omega (arith, c.loop-y-test.true, c.requires.bottom)) (omega (arith, c.loop-x-test.true, c.requires.right)) in
    rw (c.size-width.ensures.width, c.size-width.ensures.picture.cells) within

pub push_reserved-requires : goal.push_reserved-requires
push_reserved-requires c =
    let room = read_room c.args.grid.now c.args.left c.args.top c.args.w c.args.h c.loop-x.x c.loop-y.y c.size-width.ensures.picture c.loop-x-test.true c.requires.right c.loop-y-test.true c.requires.bottom in
    omega (arith, room, ap (λ (l : List Glyph). length l) c.loop-x.invariant.0, c.loop-x.invariant.1, c.requires.spare)

pub loop-x-preserved : goal.loop-x-preserved
loop-x-preserved c =
    let g = c.args.grid.now in
    let y_in : c.args.top + c.loop-y.y < g.height = omega (arith, c.loop-y-test.true, c.requires.bottom) in
    let read : slice_get g.cells ((c.args.top + c.loop-y.y) * g.width + (c.args.left + c.loop-x.x)) ≡ Some c.at.result = ap (λ w. slice_get g.cells ((c.args.top + c.loop-y.y) * w + (c.args.left + c.loop-x.x))) (sym c.size-width.ensures.width) ∙ c.at.ensures in (
      read_more g c.args.left c.args.top c.args.w c.loop-x.x c.loop-y.y c.at.result c.loop-x.out.items c.push_reserved.new.self.items c.size-width.ensures.picture c.loop-x-test.true c.requires.right y_in read
          c.loop-x.invariant.0 c.push_reserved.ensures.items,
      c.push_reserved.ensures.capacity ∙ c.loop-x.invariant.1,
    )

pub loop-y-preserved : goal.loop-y-preserved
loop-y-preserved c =
    let g = c.args.grid.now in
    let end : c.loop-x.x ≡ c.args.w = omega arith in
    let next : suc c.loop-y.y ≡ c.loop-y.y + 1 = omega arith in
    (c.loop-x.invariant.0 ∙ ap (λ x. read_so g c.args.left c.args.top c.args.w x c.loop-y.y) end ∙ ap (λ y. rows_in g.width g.cells c.args.left c.args.top c.args.w y) next, c.loop-x.invariant.1)
