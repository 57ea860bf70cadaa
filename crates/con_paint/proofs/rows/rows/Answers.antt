-- The first rows, and then the rest.
use Rattle.con_paint.proofs.FrameLemmas.{rows_rest}
use Rattle.con_paint.proofs.rows.rows.Goals as goal

pub returns-clause-rows : goal.returns-clause-rows
returns-clause-rows c = rows_rest c.args.size.w c.args.size.h c.args.tail c.args.before c.first_rows-above.result c.rest.result c.args.cells.now c.args.shadow.now c.args.known
    c.args.out.now.items c.first_rows-above.new.out.items c.rest.new.out.items c.requires.few.0 c.requires.inside c.requires.lengths.0 c.requires.blank c.requires.differ c.first_rows-above.ensures.rows c.rest.ensures.rest
