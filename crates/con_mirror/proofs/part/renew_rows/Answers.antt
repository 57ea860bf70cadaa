use Rattle.std.proofs.Common.{◌≡◌, ◌+◌, ℕ, List, ap, ◌∙◌, subst, arith}
use Rattle.con_units.specs.Glyph.{Glyph}
use Rattle.con_mirror.specs.Part.{part_row}
use Rattle.con_mirror.specs.Parts.{padded}
use Rattle.con_mirror.proofs.RowLemmas.{Renewed, renewed_none, renewed_room, renewed_more, renewed_same, renewed_stands, rows_all}
use Rattle.con_mirror.proofs.part.renew_rows.Goals as goal

pub loop-y-init : goal.loop-y-init
loop-y-init c = renewed_none c.args.view.now c.args.corner.left c.args.corner.top c.args.size.w c.args.size.h c.args.cells.now c.args.marks.now c.requires.marks

pub renew_if-requires-clause-room : goal.renew_if-requires-clause-room
renew_if-requires-clause-room c = renewed_room c.args.view.now c.args.corner.left c.args.corner.top c.args.size.w c.args.size.h c.loop-y.y c.loop-y.cells c.args.cells.now c.loop-y.marks (omega (arith, c.loop-y-test.true)) c.requires.room c.loop-y.invariant

pub renew_if-requires-clause-stands : goal.renew_if-requires-clause-stands
renew_if-requires-clause-stands c =
    let row : padded c.args.size.w c.row_from-row.result.now ≡ part_row c.args.view.now c.args.corner.left c.args.size.w (c.args.corner.top + c.loop-y.y) = ap (λ (xs : List Glyph). padded c.args.size.w xs) c.row_from-row.ensures in
    λ off. row ∙ renewed_stands c.args.view.now c.args.since.now c.args.corner.left c.args.corner.top c.args.size.w c.args.size.h c.loop-y.y c.args.stays c.may_differ-wanted.result c.loop-y.cells c.args.cells.now c.loop-y.marks (omega (arith, c.loop-y-test.true)) c.requires.since c.may_differ-wanted.ensures c.loop-y.invariant off

pub loop-y-preserved : goal.loop-y-preserved
loop-y-preserved c =
    let row : padded c.args.size.w c.row_from-row.result.now ≡ part_row c.args.view.now c.args.corner.left c.args.size.w (c.args.corner.top + c.loop-y.y) = ap (λ (xs : List Glyph). padded c.args.size.w xs) c.row_from-row.ensures in
    renewed_more c.args.view.now c.args.corner.left c.args.corner.top c.args.size.w c.args.size.h c.loop-y.y c.loop-y.cells c.renew_if.new.cells c.args.cells.now c.loop-y.marks c.renew_if.result (omega (arith, c.loop-y-test.true)) c.loop-y.invariant
    (rw (← row) c.renew_if.ensures.cells) (rw (← row) c.renew_if.ensures.same)

pub returns-clause-cells : goal.returns-clause-cells
returns-clause-cells c =
    let end : c.loop-y.y ≡ c.args.size.h = omega arith in
    let all : Renewed c.args.view.now c.args.corner.left c.args.corner.top c.args.size.w c.args.size.h c.loop-y.cells c.args.cells.now c.loop-y.marks c.args.size.h =
    subst (λ (n : ℕ). Renewed c.args.view.now c.args.corner.left c.args.corner.top c.args.size.w n c.loop-y.cells c.args.cells.now c.loop-y.marks c.args.size.h) end c.loop-y.invariant in
    rows_all c.args.view.now c.args.corner.left c.args.corner.top c.args.size.w c.args.size.h c.loop-y.cells c.args.cells.now c.requires.room all.cells

pub returns-clause-same : goal.returns-clause-same
returns-clause-same c =
    let end : c.loop-y.y ≡ c.args.size.h = omega arith in
    let all : Renewed c.args.view.now c.args.corner.left c.args.corner.top c.args.size.w c.args.size.h c.loop-y.cells c.args.cells.now c.loop-y.marks c.args.size.h =
    subst (λ (n : ℕ). Renewed c.args.view.now c.args.corner.left c.args.corner.top c.args.size.w n c.loop-y.cells c.args.cells.now c.loop-y.marks c.args.size.h) end c.loop-y.invariant in
    renewed_same c.args.view.now c.args.corner.left c.args.corner.top c.args.size.w c.args.size.h c.loop-y.cells c.args.cells.now c.loop-y.marks c.requires.room all
