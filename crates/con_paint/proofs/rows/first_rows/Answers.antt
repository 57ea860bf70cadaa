-- One more row.
use Rattle.std.proofs.Common.{refl, arith, ◌∙◌, ◌≡◌, ◌<◌, inl, inr, false, get_or}
use Rattle.con_paint.proofs.FrameLemmas.{cannot_differ, rows_none, rows_turn, row_used, slice_length}
use Rattle.con_paint.proofs.rows.first_rows.Goals as goal

pub loop-y-init : goal.loop-y-init
loop-y-init c = (rows_none _ _ _ _ _ _ _, refl, omega arith)

pub loop-y-preserved : goal.loop-y-preserved
loop-y-preserved c =
    let lt : c.loop-y.y < c.args.size.h = omega arith in (
      rows_turn c.args.size.w c.args.size.h c.loop-y.y c.args.before c.loop-y.state c.one_row-state.result c.args.cells.now c.args.shadow.now _ _ c.args.known c.may_differ-marked.result c.differs-paint.result
          c.args.out.now.items c.loop-y.out.items c.one_row-state.new.out.items c.loop-y.invariant.0 lt c.requires.lengths.0 refl refl c.differs-paint.ensures (λ k m. elim (cannot_differ c.args.lifted (get_or c.args.marks.now c.loop-y.y false) c.may_differ-marked.result c.loop-y.y c.args.first c.may_differ-marked.ensures.behind c.may_differ-marked.ensures.marked m) [ inl p ↦ c.requires.lifted k p.0 c.loop-y.y p.1 | inr p ↦ c.requires.marked k p.0 c.loop-y.y lt p.1 ]) c.one_row-state.ensures.step,
      c.one_row-state.ensures.capacity ∙ c.loop-y.invariant.1,
      row_used _ _ _ c.loop-y.y c.args.size.w _ c.one_row-state.ensures.few c.loop-y.invariant.2 (omega (arith, slice_length c.loop-y.y c.args.size.w c.args.size.h c.args.cells.now lt c.requires.lengths.0)),
    )

pub returns-clause-rows : goal.returns-clause-rows
returns-clause-rows c = let e : c.loop-y.y ≡ c.args.tail = omega arith in rw e at c.loop-y.invariant.0
