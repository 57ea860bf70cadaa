use Rattle.std.proofs.Common.{rules, arith}
use Rattle.tests_book.proofs.Counting.{counted}
use Rattle.tests_book.proofs.desk.lines.Goals as goal

pub fill-requires : goal.fill-requires
fill-requires c =
    let some = c.close-machine.result.machine.roomy in
    let n = counted _ _ c.close-machine.result.log.items c.close-machine.ensures.machine_is c.requires.begins in
    search rules

pub returns : goal.returns
returns c = (c.close-machine.result.log.items, c.close-machine.ensures.legal, c.fill.ensures)
