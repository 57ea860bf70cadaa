-- The rows, and then the cursor.
use Rattle.con_paint.proofs.DrawLemmas.{drawn, undrawn}
use Rattle.con_paint.proofs.frame.draw.Goals as goal

pub returns-clause-drawn : goal.returns-clause-drawn
returns-clause-drawn c = drawn c.args.size.w c.args.size.h c.args.lifting.attr c.args.cells.now c.args.shadow.now c.args.known c.must_hide-hidden.result c.args.was c.args.out.now.items c.turn_if.new.out.items c.rows-after.new.out.items c.finish-end.new.out.items
    c.args.spot c.finish-end.result c.rows-after.result c.args.caret c.requires.lengths.0 c.turn_if.ensures.leads c.rows-after.ensures.rows c.finish-end.ensures.placed

pub returns-clause-quiet : goal.returns-clause-quiet
returns-clause-quiet c = undrawn c.args.size.w c.args.size.h c.args.lifting.attr c.args.lifting.rows c.args.cells.now c.args.shadow.now c.args.known c.is_many-many.result c.must_hide-hidden.result c.args.was c.args.out.now.items c.turn_if.new.out.items c.rows-after.new.out.items c.finish-end.new.out.items
    c.args.spot c.rows-after.result c.args.caret c.is_many-many.ensures.quiet c.must_hide-hidden.ensures.quiet c.turn_if.ensures.quiet c.rows-after.ensures.rows c.finish-end.ensures.quiet
