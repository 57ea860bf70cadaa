-- One unit more.
use Rattle.std.proofs.Common.{◌<◌, length, arith, sym, ◌∙◌}
use Rattle.con_page.specs.Run.{is_printed}
use Rattle.con_page.proofs.ScanLemmas.{all_next}
use Rattle.con_page.proofs.front.printed_front.Goals as goal

pub loop-count-preserved : goal.loop-count-preserved
loop-count-preserved c =
    let inside : c.loop-count.count < length c.args.units.now = omega (arith, c.loop-count-test.true, c.min-end.ensures) in
    (omega (arith, c.loop-count-test.true), all_next is_printed c.args.units.now c.loop-count.count inside c.loop-count.invariant.1 (sym c.is_printed.ensures ∙ c.if-not-is_printed.false))
