use Rattle.std.proofs.Common.{arith}
use Rattle.con_run.proofs.Causes.{cause_then}
use Rattle.con_run.proofs.SendingLaws.{sent_then}
use Rattle.con_run.proofs.work.side.send_all.Goals as goal

pub loop-preserved-in-Ok-Entered : goal.loop-preserved-in-Ok-Entered
loop-preserved-in-Ok-Entered g c = record {
  on = sent_then c.args.side.now c.loop.side c.turn.new.side _ _ _ c.loop.invariant.on c.turn.ensures.on;
  failed = cause_then _ _ _ _ _ _ c.loop.invariant.failed c.turn.ensures.failed c.loop.invariant.never_falls c.turn.ensures.never_falls;
  never_falls = omega (arith, c.loop.invariant.never_falls, c.turn.ensures.never_falls);
  can_next = tt;
  is_finite = tt;
}

pub loop-preserved : goal.loop-preserved
loop-preserved g c = record {
  on = sent_then c.args.side.now c.loop.side c.turn.new.side _ _ _ c.loop.invariant.on c.turn.ensures.on;
  failed = cause_then _ _ _ _ _ _ c.loop.invariant.failed c.turn.ensures.failed c.loop.invariant.never_falls c.turn.ensures.never_falls;
  never_falls = omega (arith, c.loop.invariant.never_falls, c.turn.ensures.never_falls);
  can_next = tt;
  is_finite = tt;
}

pub returns-in-Ok-Gone-clause-on : goal.returns-in-Ok-Gone-clause-on
returns-in-Ok-Gone-clause-on g c = sent_then c.args.side.now c.loop.side c.turn.new.side _ _ _ c.loop.invariant.on c.turn.ensures.on

pub returns-in-Err-clause-on : goal.returns-in-Err-clause-on
returns-in-Err-clause-on g c = sent_then c.args.side.now c.loop.side c.turn.new.side _ _ _ c.loop.invariant.on c.turn.ensures.on
