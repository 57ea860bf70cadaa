use Rattle.std.proofs.Common.{arith, ◌≡◌, ◌<◌, ◌+◌, ◌*◌, subst, ◌∙◌, ℕ}
use Rattle.con_units.specs.Glyph.{Glyph}
use Rattle.con_rects.specs.Parts.{area_in, rect_rule}
use Rattle.con_rects.specs.declared.area.Area.{Area}
use Rattle.con_rects.proofs.AreaLemmas.{IsWithin}
use Rattle.con_rects.proofs.DrawLemmas.{DoneBefore, flat, IsAreaOf, first_row, row_start, row_end, last_row, area_put}
use Rattle.con_rects.proofs.RectLemmas.{given_in, rect_only, rect_cell, area_is}
use Rattle.con_rects.proofs.writes.write_area.Goals as goal

pub loop-y-init : goal.loop-y-init
loop-y-init c =
    let p = c.args.grid.now in
    let is : IsAreaOf p c.args.area.now = area_is p c.args.rect.now c.args.area.now c.size-width.ensures.picture c.requires.area c.requires.some in
    first_row p c.args.area.now (flat p (rect_rule p c.args.rect.now c.args.cells.now)) is (rect_only p c.args.rect.now c.args.area.now c.args.cells.now is.wide c.requires.area) c.size-width.ensures.picture

pub loop-x-init : goal.loop-x-init
loop-x-init c =
    let p = c.args.grid.now in
    let is : IsAreaOf p c.args.area.now = area_is p c.args.rect.now c.args.area.now c.size-width.ensures.picture c.requires.area c.requires.some in
    row_start p c.loop-y.grid c.args.area.now (flat p (rect_rule p c.args.rect.now c.args.cells.now)) c.loop-y.y is (rect_only p c.args.rect.now c.args.area.now c.args.cells.now is.wide c.requires.area) c.loop-y-test.true c.loop-y.invariant

pub given-requires-clause-has : goal.given-requires-clause-has
given-requires-clause-has c =
    let p = c.args.grid.now in
    let i : IsWithin c.args.area.now c.loop-x.x c.loop-y.y = record { from_left = c.loop-x.auto.x; to_right = c.loop-x-test.true; from_top = c.loop-y.auto.y; to_bottom = c.loop-y-test.true } in
    omega (arith, given_in c.args.rect.now p.width p.height c.loop-x.x c.loop-y.y (subst (λ (a : Area). IsWithin a c.loop-x.x c.loop-y.y) c.requires.area i), c.requires.full)

pub loop-x-preserved : goal.loop-x-preserved
loop-x-preserved c =
    let p = c.args.grid.now in
    let is : IsAreaOf p c.args.area.now = area_is p c.args.rect.now c.args.area.now c.size-width.ensures.picture c.requires.area c.requires.some in
    let i : IsWithin c.args.area.now c.loop-x.x c.loop-y.y = record { from_left = c.loop-x.auto.x; to_right = c.loop-x-test.true; from_top = c.loop-y.auto.y; to_bottom = c.loop-y-test.true } in
    let x_in : c.loop-x.x < p.width = omega (arith, is.right, c.loop-x-test.true) in
    let y_in : c.loop-y.y < p.height = omega (arith, is.bottom, c.loop-y-test.true) in
    let i' : IsWithin (area_in c.args.rect.now p.width p.height) c.loop-x.x c.loop-y.y = subst (λ (a : Area). IsWithin a c.loop-x.x c.loop-y.y) c.requires.area i in
    area_put p c.loop-x.grid c.put.new.self (flat p (rect_rule p c.args.rect.now c.args.cells.now)) c.loop-x.x c.loop-y.y c.size-width.result.w c.given.result
    c.loop-x.invariant x_in y_in c.size-width.ensures.width (c.given.ensures ∙ rect_cell p c.args.rect.now c.args.cells.now c.loop-x.x c.loop-y.y x_in y_in i') c.put.ensures.grid c.put.ensures.picture

pub loop-y-preserved : goal.loop-y-preserved
loop-y-preserved c =
    let p = c.args.grid.now in
    let f : ℕ → Glyph = flat p (rect_rule p c.args.rect.now c.args.cells.now) in
    let is : IsAreaOf p c.args.area.now = area_is p c.args.rect.now c.args.area.now c.size-width.ensures.picture c.requires.area c.requires.some in
    let end : c.loop-x.x ≡ c.args.area.now.right = omega (arith, is.columns, c.loop-x.auto.x-end, c.loop-x-test.false) in
    row_end p c.loop-x.grid c.args.area.now f c.loop-y.y is (rect_only p c.args.rect.now c.args.area.now c.args.cells.now is.wide c.requires.area) c.loop-y-test.true
    (subst (λ (x : ℕ). DoneBefore p c.loop-x.grid f (c.loop-y.y * p.width + x)) end c.loop-x.invariant)

pub returns-clause-grid : goal.returns-clause-grid
returns-clause-grid c =
    let p = c.args.grid.now in
    let rule : ℕ → ℕ → Glyph = rect_rule p c.args.rect.now c.args.cells.now in
    let is : IsAreaOf p c.args.area.now = area_is p c.args.rect.now c.args.area.now c.size-width.ensures.picture c.requires.area c.requires.some in
    let end : c.loop-y.y ≡ c.args.area.now.bottom = omega (arith, is.rows, c.loop-y.auto.y-end, c.loop-y-test.false) in
    last_row p c.loop-y.grid c.args.area.now rule is (rect_only p c.args.rect.now c.args.area.now c.args.cells.now is.wide c.requires.area)
    (subst (λ (y : ℕ). DoneBefore p c.loop-y.grid (flat p rule) (y * p.width)) end c.loop-y.invariant)
