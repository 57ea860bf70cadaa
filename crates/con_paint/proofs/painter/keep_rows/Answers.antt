-- One more row.
use Rattle.std.proofs.Common.{◌≡◌, ◌-◌, ◌*◌, arith, refl, ◌∙◌, false, get_or}
use Rattle.con_paint.proofs.FrameLemmas.{kept_more, mixed_all}
use Rattle.con_paint.proofs.painter.keep_rows.Goals as goal

pub loop-y-preserved : goal.loop-y-preserved
loop-y-preserved c = kept_more c.args.size.w c.args.size.h c.loop-y.y (c.args.size.h - c.args.rows) c.args.cells.now c.args.shadow.now c.loop-y.shadow c.copy_if.new.shadow _ c.args.known c.args.lifted (get_or c.args.marks.now c.loop-y.y false) c.may_differ-marked.result _
    c.loop-y-test.true c.requires.lengths.0 c.requires.lengths.1 c.loop-y.invariant refl c.copy_if.ensures c.either-wanted.ensures c.may_differ-marked.ensures.behind c.may_differ-marked.ensures.marked (λ k l m. c.requires.marked k l c.loop-y.y c.loop-y-test.true m) (λ k l lt. c.requires.lifted k l c.loop-y.y lt)

pub returns : goal.returns
returns c = let e : c.loop-y.y ≡ c.args.size.h = omega arith in c.loop-y.invariant ∙ rw e (mixed_all c.args.cells.now c.args.shadow.now (c.args.size.h * c.args.size.w) c.requires.lengths.0 c.requires.lengths.1)
