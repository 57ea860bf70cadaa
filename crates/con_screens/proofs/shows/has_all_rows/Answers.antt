use Rattle.std.proofs.Common.{◌*◌, refl}
use Rattle.con_screens.proofs.ShowsLemmas.{other_count}
use Rattle.con_screens.proofs.shows.has_all_rows.Goals as goal

pub returns-then-rows-count : goal.returns-then-rows-count
returns-then-rows-count c = other_count c.args.grid.now c.args.rows.now c.args.left c.args.top c.args.size.w c.args.size.h (c.args.size.h * c.args.size.w) c.size-full.ensures.picture c.requires.right c.requires.bottom refl c.if-rows-count.true
