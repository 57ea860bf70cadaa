use Rattle.std.proofs.Common.{arith, ◌*◌, sym, ap}
use Rattle.con_rects.proofs.RunLemmas.{start_in}
use Rattle.con_rects.proofs.runs.room_from.Goals as goal

pub overflow_sub-result : goal.overflow_sub-result
overflow_sub-result c = let h = start_in c.args.grid.now c.args.at (sym c.if-has.ensures) in omega (arith, h, c.start_of.ensures, ap (λ n. n * c.size-size.result.h) c.size-size.ensures.width, ap (λ n. c.args.grid.now.width * n) c.size-size.ensures.height)
