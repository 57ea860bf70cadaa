use Rattle.std.proofs.Common.{arith, ◌≡◌, ◌<◌, ◌+◌, ◌-◌, ◌*◌, subst, ℕ}
use Rattle.con_rects.specs.Moves.{move_rule}
use Rattle.con_rects.proofs.AreaLemmas.{IsWithin}
use Rattle.con_rects.proofs.DrawLemmas.{DoneFrom, flat, count_is, IsAreaOf, from_last_row, from_row_end, from_row_start, from_first_row, area_put_from}
use Rattle.con_rects.proofs.MoveLemmas.{area_some, move_only, on_cell, comes_inside}
use Rattle.con_rects.proofs.scroll.move_on.Goals as goal

pub loop-y-init : goal.loop-y-init
loop-y-init c =
    let p = c.args.grid.now in
    let to = c.args.to.now in
    let s = c.args.shift.now in
    let is : IsAreaOf p to = area_some p to c.size-width.ensures.picture c.requires.comes.right c.requires.comes.bottom c.requires.some in
    (omega (arith, is.rows), omega arith, from_last_row p to (flat p (move_rule p to s)) is (move_only p to s is.wide) c.size-width.ensures.picture)

pub loop-x-init : goal.loop-x-init
loop-x-init c =
    let p = c.args.grid.now in
    let to = c.args.to.now in
    let s = c.args.shift.now in
    let is : IsAreaOf p to = area_some p to c.size-width.ensures.picture c.requires.comes.right c.requires.comes.bottom c.requires.some in
    let y : ℕ = c.loop-y.y - 1 in
    let y_in : y < to.bottom = omega (arith, c.loop-y.invariant.1, c.loop-y-test.true) in
    let next : c.loop-y.y ≡ y + 1 = omega (arith, c.loop-y-test.true) in (
      omega (arith, is.columns),
      omega arith,
      from_row_end p c.loop-y.grid to (flat p (move_rule p to s)) y is (move_only p to s is.wide) y_in
          (subst (λ (k : ℕ). DoneFrom p c.loop-y.grid (flat p (move_rule p to s)) (k * p.width)) next c.loop-y.invariant.2),
    )

pub at-cell-requires : goal.at-cell-requires
at-cell-requires c =
    let p = c.args.grid.now in
    let s = c.args.shift.now in
    let x : ℕ = c.loop-x.x - 1 in
    let y : ℕ = c.loop-y.y - 1 in
    let i : IsWithin c.args.to.now x y = record { from_left = omega (arith, c.loop-x-test.true); to_right = omega (arith, c.loop-x.invariant.1, c.loop-x-test.true); from_top = omega (arith, c.loop-y-test.true); to_bottom = omega (arith, c.loop-y.invariant.1, c.loop-y-test.true) } in
    comes_inside p c.loop-x.grid c.args.to.now s x y c.size-width.result.w c.requires.comes i c.size-width.ensures.width (count_is p c.loop-x.grid c.loop-x.invariant.2.same c.loop-x.invariant.2.picture)

pub loop-x-preserved : goal.loop-x-preserved
loop-x-preserved c =
    let p = c.args.grid.now in
    let to = c.args.to.now in
    let s = c.args.shift.now in
    let is : IsAreaOf p to = area_some p to c.size-width.ensures.picture c.requires.comes.right c.requires.comes.bottom c.requires.some in
    let x : ℕ = c.loop-x.x - 1 in
    let y : ℕ = c.loop-y.y - 1 in
    let i : IsWithin to x y = record { from_left = omega (arith, c.loop-x-test.true); to_right = omega (arith, c.loop-x.invariant.1, c.loop-x-test.true); from_top = omega (arith, c.loop-y-test.true); to_bottom = omega (arith, c.loop-y.invariant.1, c.loop-y-test.true) } in
    let x_in : x < p.width = omega (arith, is.right, i.to_right) in
    let y_in : y < p.height = omega (arith, is.bottom, i.to_bottom) in
    let next : c.loop-x.x ≡ x + 1 = omega (arith, c.loop-x-test.true) in
    let after : DoneFrom p c.loop-x.grid (flat p (move_rule p to s)) (y * p.width + (x + 1)) = subst (λ (k : ℕ). DoneFrom p c.loop-x.grid (flat p (move_rule p to s)) (y * p.width + k)) next c.loop-x.invariant.2 in (
      omega (arith, i.from_left),
      omega (arith, i.to_right),
      area_put_from p c.loop-x.grid c.put.new.self (flat p (move_rule p to s)) x y c.size-width.result.w c.at-cell.result
          after x_in y_in c.size-width.ensures.width
          (on_cell p c.loop-x.grid to s x y c.size-width.result.w c.at-cell.result after c.requires.on c.requires.comes x_in i c.size-width.ensures.width c.at-cell.ensures) c.put.ensures.grid c.put.ensures.picture,
    )

pub loop-y-preserved : goal.loop-y-preserved
loop-y-preserved c =
    let p = c.args.grid.now in
    let to = c.args.to.now in
    let s = c.args.shift.now in
    let is : IsAreaOf p to = area_some p to c.size-width.ensures.picture c.requires.comes.right c.requires.comes.bottom c.requires.some in
    let y : ℕ = c.loop-y.y - 1 in
    let y_in : y < to.bottom = omega (arith, c.loop-y.invariant.1, c.loop-y-test.true) in
    let end : c.loop-x.x ≡ to.left = omega (arith, c.loop-x.invariant.0, c.loop-x-test.false) in (
      omega (arith, c.loop-y-test.true),
      omega (arith, y_in),
      from_row_start p c.loop-x.grid to (flat p (move_rule p to s)) y is (move_only p to s is.wide) y_in
          (subst (λ (x : ℕ). DoneFrom p c.loop-x.grid (flat p (move_rule p to s)) (y * p.width + x)) end c.loop-x.invariant.2),
    )

pub returns-clause-grid : goal.returns-clause-grid
returns-clause-grid c =
    let p = c.args.grid.now in
    let to = c.args.to.now in
    let s = c.args.shift.now in
    let is : IsAreaOf p to = area_some p to c.size-width.ensures.picture c.requires.comes.right c.requires.comes.bottom c.requires.some in
    let end : c.loop-y.y ≡ to.top = omega (arith, c.loop-y.invariant.0, c.loop-y-test.false) in
    from_first_row p c.loop-y.grid to (move_rule p to s) is (move_only p to s is.wide)
    (subst (λ (y : ℕ). DoneFrom p c.loop-y.grid (flat p (move_rule p to s)) (y * p.width)) end c.loop-y.invariant.2)
