use Rattle.std.proofs.Common.{◌+◌}
use Rattle.con_page.proofs.ScanLemmas.{printable_first, printable_part}
use Rattle.con_page.proofs.front.printable_front.Goals as goal

pub returns-clause-all : goal.returns-clause-all
returns-clause-all c =
    let near = printable_first c.args.units.now _ _ c.plain_count-near.ensures.few c.plain_count-near.ensures.plain in
    let far = printable_part c.args.units.now c.plain_count-near.result c.printable_blocks.result _ c.printable_blocks.ensures.count near c.printable_blocks.ensures.all in
    printable_part c.args.units.now (c.plain_count-near.result + c.printable_blocks.result) c.plain_count.result _ c.plain_count.ensures.few far c.plain_count.ensures.plain
