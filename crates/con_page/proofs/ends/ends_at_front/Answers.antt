-- One unit more.
use Rattle.std.proofs.Common.{arith, refl, sym, ◌∙◌}
use Rattle.con_page.specs.Ends.{is_end}
use Rattle.con_page.proofs.ScanLemmas.{all_next}
use Rattle.con_page.proofs.EndLemmas.{none_fed, feeds_next}
use Rattle.con_page.proofs.ends.ends_at_front.Goals as goal

pub loop-count-init : goal.loop-count-init
loop-count-init c = (omega arith, refl, omega arith, none_fed)

pub loop-count-preserved : goal.loop-count-preserved
loop-count-preserved c = let v = c.loop-count.invariant in let one = c.one_if_feed-feeds.ensures in (
  omega (arith, c.loop-count-test.true),
  all_next is_end c.args.units.now c.loop-count.count (omega (arith, c.loop-count-test.true)) v.1 (sym c.is_end.ensures ∙ c.if-not-is_end.false),
  omega (arith, v.2, one.few),
  feeds_next c.args.units.now c.loop-count.count c.loop-count.feeds c.one_if_feed-feeds.result (omega (arith, c.loop-count-test.true)) v.3 one.feeds,
)
