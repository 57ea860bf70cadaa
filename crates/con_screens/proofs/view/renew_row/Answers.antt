use Rattle.std.proofs.Common.{◌<◌, take, drop, arith}
use Rattle.std.proofs.lemmas.Bool.Decides.{nat_tests}
use Rattle.con_screens.proofs.ViewLemmas.{stays}
use Rattle.con_screens.proofs.view.renew_row.Goals as goal

pub returns-then-stamp-now : goal.returns-then-stamp-now
returns-then-stamp-now c =
    let before : c.stamp.result < c.now.result = grind (arith, nat_tests) in
    stays c.args.cells.now (take c.args.n (drop c.args.at c.args.grid.now.cells)) c.args.from c.args.n (c.requires.known (c.stamp.ensures.untouched (omega (arith, before, c.now.ensures))))
