use Rattle.std.proofs.Common.{arith, ◌≡◌, ◌<◌, ◌+◌, ◌*◌, subst, ℕ}
use Rattle.con_rects.specs.Moves.{move_rule}
use Rattle.con_rects.proofs.AreaLemmas.{IsWithin}
use Rattle.con_rects.proofs.DrawLemmas.{DoneBefore, flat, count_is, IsAreaOf, first_row, row_start, row_end, last_row, area_put}
use Rattle.con_rects.proofs.MoveLemmas.{area_some, move_only, back_cell, comes_inside}
use Rattle.con_rects.proofs.scroll.move_back.Goals as goal

pub loop-y-init : goal.loop-y-init
loop-y-init c =
    let p = c.args.grid.now in
    let to = c.args.to.now in
    let s = c.args.shift.now in
    let is : IsAreaOf p to = area_some p to c.size-width.ensures.picture c.requires.comes.right c.requires.comes.bottom c.requires.some in
    first_row p to (flat p (move_rule p to s)) is (move_only p to s is.wide) c.size-width.ensures.picture

pub loop-x-init : goal.loop-x-init
loop-x-init c =
    let p = c.args.grid.now in
    let to = c.args.to.now in
    let s = c.args.shift.now in
    let is : IsAreaOf p to = area_some p to c.size-width.ensures.picture c.requires.comes.right c.requires.comes.bottom c.requires.some in
    row_start p c.loop-y.grid to (flat p (move_rule p to s)) c.loop-y.y is (move_only p to s is.wide) c.loop-y-test.true c.loop-y.invariant

pub at-cell-requires : goal.at-cell-requires
at-cell-requires c =
    let p = c.args.grid.now in
    let s = c.args.shift.now in
    let i : IsWithin c.args.to.now c.loop-x.x c.loop-y.y = record { from_left = c.loop-x.auto.x; to_right = c.loop-x-test.true; from_top = c.loop-y.auto.y; to_bottom = c.loop-y-test.true } in
    comes_inside p c.loop-x.grid c.args.to.now s c.loop-x.x c.loop-y.y c.size-width.result.w c.requires.comes i c.size-width.ensures.width (count_is p c.loop-x.grid c.loop-x.invariant.same c.loop-x.invariant.picture)

pub loop-x-preserved : goal.loop-x-preserved
loop-x-preserved c =
    let p = c.args.grid.now in
    let to = c.args.to.now in
    let s = c.args.shift.now in
    let is : IsAreaOf p to = area_some p to c.size-width.ensures.picture c.requires.comes.right c.requires.comes.bottom c.requires.some in
    let i : IsWithin to c.loop-x.x c.loop-y.y = record { from_left = c.loop-x.auto.x; to_right = c.loop-x-test.true; from_top = c.loop-y.auto.y; to_bottom = c.loop-y-test.true } in
    let x_in : c.loop-x.x < p.width = omega (arith, is.right, c.loop-x-test.true) in
    let y_in : c.loop-y.y < p.height = omega (arith, is.bottom, c.loop-y-test.true) in
    area_put p c.loop-x.grid c.put.new.self (flat p (move_rule p to s)) c.loop-x.x c.loop-y.y c.size-width.result.w c.at-cell.result
    c.loop-x.invariant x_in y_in c.size-width.ensures.width
    (back_cell p c.loop-x.grid to s c.loop-x.x c.loop-y.y c.size-width.result.w c.at-cell.result c.loop-x.invariant c.requires.back x_in i c.size-width.ensures.width c.at-cell.ensures) c.put.ensures.grid c.put.ensures.picture

pub loop-y-preserved : goal.loop-y-preserved
loop-y-preserved c =
    let p = c.args.grid.now in
    let to = c.args.to.now in
    let s = c.args.shift.now in
    let is : IsAreaOf p to = area_some p to c.size-width.ensures.picture c.requires.comes.right c.requires.comes.bottom c.requires.some in
    let end : c.loop-x.x ≡ to.right = omega (arith, is.columns, c.loop-x.auto.x-end, c.loop-x-test.false) in
    row_end p c.loop-x.grid to (flat p (move_rule p to s)) c.loop-y.y is (move_only p to s is.wide) c.loop-y-test.true
    (subst (λ (x : ℕ). DoneBefore p c.loop-x.grid (flat p (move_rule p to s)) (c.loop-y.y * p.width + x)) end c.loop-x.invariant)

pub returns-clause-grid : goal.returns-clause-grid
returns-clause-grid c =
    let p = c.args.grid.now in
    let to = c.args.to.now in
    let s = c.args.shift.now in
    let is : IsAreaOf p to = area_some p to c.size-width.ensures.picture c.requires.comes.right c.requires.comes.bottom c.requires.some in
    let end : c.loop-y.y ≡ to.bottom = omega (arith, is.rows, c.loop-y.auto.y-end, c.loop-y-test.false) in
    last_row p c.loop-y.grid to (move_rule p to s) is (move_only p to s is.wide)
    (subst (λ (y : ℕ). DoneBefore p c.loop-y.grid (flat p (move_rule p to s)) (y * p.width)) end c.loop-y.invariant)
