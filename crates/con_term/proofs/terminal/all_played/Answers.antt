-- A run, or one byte.
use Rattle.std.proofs.Common.{arith}
use Rattle.con_term.specs.Inside.{parts}
use Rattle.con_term.specs.PlayLaws.{play-none}
use Rattle.con_term.proofs.PlayLemmas.{played_run, played_none, played_byte, run_fits}
use Rattle.con_term.proofs.terminal.all_played.Goals as goal

pub loop-at-init : goal.loop-at-init
loop-at-init c = (omega arith, play-none _)

pub loop-at-preserved : goal.loop-at-preserved
loop-at-preserved c = (
  run_fits c.args.input.now c.loop-at.at c.run_played-count.result c.loop-at.invariant.0 c.run_played-count.ensures.few,
  played_run (parts c.args.bytes.now c.args.page.now c.args.units.now) _ _ c.args.input.now c.loop-at.at c.run_played-count.result c.loop-at.invariant.1 c.run_played-count.ensures.played,
)

pub loop-at-preserved-then-count-eq0 : goal.loop-at-preserved-then-count-eq0
loop-at-preserved-then-count-eq0 c = let t = parts c.args.bytes.now c.args.page.now c.args.units.now in (
  omega (arith, c.loop-at-test.true),
  played_byte t _ _ c.args.input.now c.loop-at.at (omega (arith, c.loop-at-test.true)) (played_none t _ _ c.args.input.now c.loop-at.at c.run_played-count.result (omega (arith, c.if-count-eq0.true)) c.loop-at.invariant.1 c.run_played-count.ensures.played) c.byte_played.ensures,
)
