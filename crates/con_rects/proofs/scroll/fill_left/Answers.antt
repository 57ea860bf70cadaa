use Rattle.std.proofs.Common.{arith, ◌≡◌, ◌<◌, ◌+◌, ◌*◌, true, false, subst, sym, ◌∙◌, ℕ, set}
use Rattle.con_units.specs.Glyph.{Glyph}
use Rattle.con_rects.specs.Parts.{is_within}
use Rattle.con_rects.specs.Moves.{free_rule}
use Rattle.con_rects.proofs.AreaLemmas.{IsWithin}
use Rattle.con_rects.proofs.DrawLemmas.{DoneBefore, flat, IsAreaOf, first_row, row_start, row_end, last_row, area_put}
use Rattle.con_rects.proofs.MoveLemmas.{area_some, free_only, free_fill, free_skip}
use Rattle.con_rects.proofs.scroll.fill_left.Goals as goal
use Rattle.con_rects.proofs.scroll.fill_left.Goals.{then-not-contains, else-not-contains}

pub loop-y-init : goal.loop-y-init
loop-y-init c =
    let p = c.args.grid.now in
    let from = c.args.from.now in
    let to = c.args.to.now in
    let f : ℕ → Glyph = flat p (free_rule p from to c.args.fill) in
    let is : IsAreaOf p from = area_some p from c.size-width.ensures.picture c.requires.right c.requires.bottom c.requires.some in
    first_row p from f is (free_only p from to c.args.fill is.wide) c.size-width.ensures.picture

pub loop-x-init : goal.loop-x-init
loop-x-init c =
    let p = c.args.grid.now in
    let from = c.args.from.now in
    let to = c.args.to.now in
    let f : ℕ → Glyph = flat p (free_rule p from to c.args.fill) in
    let is : IsAreaOf p from = area_some p from c.size-width.ensures.picture c.requires.right c.requires.bottom c.requires.some in
    row_start p c.loop-y.grid from f c.loop-y.y is (free_only p from to c.args.fill is.wide) c.loop-y-test.true c.loop-y.invariant

pub loop-x-preserved : goal.loop-x-preserved
loop-x-preserved c =
    let p = c.args.grid.now in
    let from = c.args.from.now in
    let to = c.args.to.now in
    let f : ℕ → Glyph = flat p (free_rule p from to c.args.fill) in
    let is : IsAreaOf p from = area_some p from c.size-width.ensures.picture c.requires.right c.requires.bottom c.requires.some in
    let i : IsWithin from c.loop-x.x c.loop-y.y = record { from_left = c.loop-x.auto.x; to_right = c.loop-x-test.true; from_top = c.loop-y.auto.y; to_bottom = c.loop-y-test.true } in
    let x_in : c.loop-x.x < p.width = omega (arith, is.right, c.loop-x-test.true) in
    let y_in : c.loop-y.y < p.height = omega (arith, is.bottom, c.loop-y-test.true) in
    elim c.if-not-contains.branch [
      | then-not-contains w ↦
          let out : is_within to c.loop-x.x c.loop-y.y ≡ false = sym c.contains.ensures ∙ w.if-not-contains.true in
          let put : c.if-not-contains.grid ≡ record c.loop-x.grid { cells = set c.loop-x.grid.cells (c.loop-y.y * c.size-width.result.w + c.loop-x.x) c.args.fill } = w.grid-is ∙ w.put.ensures.grid in
          area_put p c.loop-x.grid c.if-not-contains.grid f c.loop-x.x c.loop-y.y c.size-width.result.w c.args.fill c.loop-x.invariant x_in y_in c.size-width.ensures.width
          (sym (free_fill p from to c.args.fill c.loop-x.x c.loop-y.y x_in i out)) put (rw w.grid-is w.put.ensures.picture)
      | else-not-contains w ↦
          let inside : is_within to c.loop-x.x c.loop-y.y ≡ true = sym c.contains.ensures ∙ w.if-not-contains.false in
          rw w.grid-is (free_skip p c.loop-x.grid from to c.args.fill c.loop-x.x c.loop-y.y c.loop-x.invariant x_in inside)
    ]

pub loop-y-preserved : goal.loop-y-preserved
loop-y-preserved c =
    let p = c.args.grid.now in
    let from = c.args.from.now in
    let to = c.args.to.now in
    let f : ℕ → Glyph = flat p (free_rule p from to c.args.fill) in
    let is : IsAreaOf p from = area_some p from c.size-width.ensures.picture c.requires.right c.requires.bottom c.requires.some in
    let end : c.loop-x.x ≡ from.right = omega (arith, is.columns, c.loop-x.auto.x-end, c.loop-x-test.false) in
    row_end p c.loop-x.grid from f c.loop-y.y is (free_only p from to c.args.fill is.wide) c.loop-y-test.true
    (subst (λ (x : ℕ). DoneBefore p c.loop-x.grid f (c.loop-y.y * p.width + x)) end c.loop-x.invariant)

pub returns-clause-grid : goal.returns-clause-grid
returns-clause-grid c =
    let p = c.args.grid.now in
    let from = c.args.from.now in
    let to = c.args.to.now in
    let f : ℕ → Glyph = flat p (free_rule p from to c.args.fill) in
    let is : IsAreaOf p from = area_some p from c.size-width.ensures.picture c.requires.right c.requires.bottom c.requires.some in
    let end : c.loop-y.y ≡ from.bottom = omega (arith, is.rows, c.loop-y.auto.y-end, c.loop-y-test.false) in
    last_row p c.loop-y.grid from (free_rule p from to c.args.fill) is (free_only p from to c.args.fill is.wide)
    (subst (λ (y : ℕ). DoneBefore p c.loop-y.grid f (y * p.width)) end c.loop-y.invariant)
