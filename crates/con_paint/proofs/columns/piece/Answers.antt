-- One more column, or some.
use Rattle.std.proofs.Common.{arith}
use Rattle.con_paint.proofs.ColumnLemmas.{columns_turn, columns_run}
use Rattle.con_paint.proofs.columns.piece.Goals as goal

pub returns-clause-more : goal.returns-clause-more
returns-clause-more c = columns_run c.args.known c.args.row.now c.args.was.now c.args.y c.args.done c.erased_from-count.result c.args.before c.run-state.result _ _ (omega (arith, c.erased_from-count.ensures.inside, c.requires.inside.1)) c.erased_from-count.ensures.blank c.run-state.ensures.step

pub returns-then-count-lt2-clause-more : goal.returns-then-count-lt2-clause-more
returns-then-count-lt2-clause-more c = λ from start first done. columns_turn c.is_kept-kept.result c.args.known c.args.row.now c.args.was.now c.args.y from c.args.done _ start c.args.before c.column-state.result first c.args.out.now.items c.column-state.new.out.items
    (omega (arith, c.requires.inside.0, c.requires.inside.1)) c.requires.lengths c.index-row-done.is c.is_kept-kept.ensures.known c.is_kept-kept.ensures.same done c.column-state.ensures.step
