-- Nothing, or a run in the cursor's row.
use Rattle.std.proofs.Common.{arith, take}
use Rattle.con_page.proofs.RunLemmas.{plain_printed, none_printed, printed_so}
use Rattle.con_page.proofs.page.Page.print_plain.Goals as goal

pub returns-then-n-eq0-clause-effect : goal.returns-then-n-eq0-clause-effect
returns-then-n-eq0-clause-effect c = none_printed _

pub returns-clause-all : goal.returns-clause-all
returns-clause-all c = plain_printed (take c.printable_front-n.result c.args.units.now) c.printable_front-n.ensures.all

pub returns-clause-effect : goal.returns-clause-effect
returns-clause-effect c =
    let n = c.printable_front-n in
    printed_so c.args.self.now _ c.args.units.now n.result n.ensures.count (c.run_room.ensures n.result (omega (arith, c.if-n-eq0.false)) n.ensures.limit) c.requires.given c.write_plain.ensures.effect
