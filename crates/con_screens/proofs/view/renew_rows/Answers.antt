use Rattle.std.proofs.Common.{◌≡◌, ◌+◌, ◌*◌, ◌++◌, ◌<◌, ◌≤◌, List, length, drop, take, sym, ap, subst, ℕ, ◌∙◌, arith}
use Rattle.con_units.specs.Glyph.{Glyph}
use Rattle.con_screens.proofs.ViewLemmas.{row_inside, renewed_none, renewed_long, renewed_known, renewed_more, renewed_all, renewed_so}
use Rattle.con_screens.proofs.view.renew_rows.Goals as goal

pub loop-y-init : goal.loop-y-init
loop-y-init c = renewed_none c.args.grid.now c.args.left c.args.top c.args.size.w c.args.cells.now

pub renew_row-requires-clause-inside : goal.renew_row-requires-clause-inside
renew_row-requires-clause-inside c =
    let g = c.args.grid.now in
    let below : c.args.top + c.loop-y.y < g.height = omega (arith, c.loop-y-test.true, c.requires.bottom) in
    rw c.size-width.ensures.width (omega (arith, row_inside g (c.args.top + c.loop-y.y) c.size-width.ensures.picture below, c.requires.right))

pub renew_row-requires-clause-room : goal.renew_row-requires-clause-room
renew_row-requires-clause-room c = renewed_long c.args.grid.now c.args.left c.args.top c.args.size.w c.args.size.h c.loop-y.y c.loop-y.cells c.args.cells.now c.size-width.ensures.picture c.requires.right c.requires.bottom (omega (arith, c.loop-y-test.true)) c.requires.count c.loop-y.invariant

pub renew_row-requires-clause-known : goal.renew_row-requires-clause-known
renew_row-requires-clause-known c = λ untouched.
    rw c.size-width.ensures.width
    (renewed_known c.args.grid.now c.args.left c.args.top c.args.size.w c.args.size.h c.loop-y.y c.loop-y.cells c.args.cells.now c.size-width.ensures.picture c.requires.right c.requires.bottom (omega (arith, c.loop-y-test.true)) c.loop-y.invariant
    (c.requires.known c.loop-y.y (omega (arith, c.loop-y-test.true))) untouched)

pub loop-y-preserved : goal.loop-y-preserved
loop-y-preserved c =
    let g = c.args.grid.now in
    let w : ℕ = c.args.size.w in
    let is = ap (λ (n : ℕ). take (c.loop-y.y * w) c.loop-y.cells ++ (take w (drop ((c.args.top + c.loop-y.y) * n + c.args.left) g.cells) ++ drop (c.loop-y.y * w + w) c.loop-y.cells)) c.size-width.ensures.width in
    renewed_more g c.args.left c.args.top w c.loop-y.y c.loop-y.cells _ c.args.cells.now c.size-width.ensures.picture c.requires.right (omega (arith, c.loop-y-test.true, c.requires.bottom)) c.loop-y.invariant (c.renew_row.ensures ∙ is)

pub returns : goal.returns
returns c =
    let end : c.loop-y.y ≡ c.args.size.h = omega arith in
    renewed_all c.args.grid.now c.args.left c.args.top c.args.size.w c.args.size.h c.loop-y.cells c.args.cells.now c.requires.count
    (subst (λ (n : ℕ). c.loop-y.cells ≡ renewed_so c.args.grid.now c.args.left c.args.top c.args.size.w n c.args.cells.now) end c.loop-y.invariant)
