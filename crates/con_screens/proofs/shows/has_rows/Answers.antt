use Rattle.std.proofs.Common.{◌≡◌, ◌+◌, ◌-◌, ◌*◌, true, false, length, take, refl, sym, ap, ◌∙◌, arith}
use Rattle.std.proofs.lemmas.List.{take_all}
use Rattle.con_units.specs.View.{row_of, row_part}
use Rattle.con_screens.specs.View.{rows_in}
use Rattle.con_screens.proofs.ShowsLemmas.{row_more, row_same, row_long, cut_row, row_found, row_lost, true_not_false}
use Rattle.con_screens.proofs.shows.has_rows.Goals as goal

pub loop-y-init : goal.loop-y-init
loop-y-init c = let none : 0 ≡ 0 * c.args.size.w = omega arith in ap (λ k. take k c.args.rows.now) none

pub returns-then-not-has_row : goal.returns-then-not-has_row
returns-then-not-has_row c =
    let long = row_long c.args.rows.now c.args.size.w c.args.size.h c.loop-y.y c.requires.count c.loop-y-test.true in (
      λ e. absurd (true_not_false e),
      λ same. sym c.if-not-has_row.true ∙ c.has_row.ensures.1 (row_lost c.args.grid.now.width c.args.grid.now.cells c.args.rows.now _ c.args.left c.args.size.w c.loop-y.y (c.args.top + c.loop-y.y) (cut_row c.args.rows.now c.args.size.w c.loop-y.y) long
          (row_same c.args.grid.now.width c.args.grid.now.cells c.args.rows.now c.args.left c.args.top c.args.size.w c.args.size.h c.loop-y.y c.requires.count c.loop-y-test.true same)),
    )

pub loop-y-preserved : goal.loop-y-preserved
loop-y-preserved c =
    let long = row_long c.args.rows.now c.args.size.w c.args.size.h c.loop-y.y c.requires.count c.loop-y-test.true in
    let found : row_part c.args.grid.now.width c.args.grid.now.cells c.args.left c.args.size.w (c.args.top + c.loop-y.y) ≡ row_of c.args.size.w c.args.rows.now c.loop-y.y =
    row_found c.args.grid.now.width c.args.grid.now.cells c.args.rows.now _ c.args.left c.args.size.w c.loop-y.y (c.args.top + c.loop-y.y) (cut_row c.args.rows.now c.args.size.w c.loop-y.y) long (c.has_row.ensures.0 c.if-not-has_row.false) in
    row_more c.args.grid.now.width c.args.grid.now.cells c.args.rows.now c.args.left c.args.top c.args.size.w c.loop-y.y c.loop-y.invariant found

pub returns : goal.returns
returns c =
    let end : c.loop-y.y ≡ c.args.size.h = omega arith in (
      λ e. ap (λ k. rows_in c.args.grid.now.width c.args.grid.now.cells c.args.left c.args.top c.args.size.w k) (sym end) ∙ c.loop-y.invariant
          ∙ take_all (c.loop-y.y * c.args.size.w) c.args.rows.now (let all : length c.args.rows.now ≡ c.loop-y.y * c.args.size.w = c.requires.count ∙ ap (λ k. k * c.args.size.w) (sym end) in omega arith),
      λ e. refl,
    )
