use Rattle.con_run.proofs.Turning.{drawn_some, drawn_none, drawn_err, drawn_ended}
use Rattle.con_run.proofs.work.painter.painter_work.Goals as goal

pub returns-then-is_over-clause-drawn : goal.returns-then-is_over-clause-drawn
returns-then-is_over-clause-drawn g c =
    drawn_ended c.args.painter.now c.loop.painter c.args.put.now c.loop.put c.finish.new.self c.loop.invariant.drawn c.finish.ensures.pipe c.finish.ensures.put

pub loop-preserved-in-Ok-Some : goal.loop-preserved-in-Ok-Some
loop-preserved-in-Ok-Some g c =
    let t = rw c.in-Ok-Some.field-0-is at c.in-Ok-Some.ensures.drew in
    record {
      drawn =
          drawn_some c.args.painter.now c.loop.painter c.paint.new.self c.args.put.now c.loop.put c.push.new.self c.in-Ok-Some.piece c.loop.invariant.drawn
          (c.is_over.ensures c.if-is_over.false) c.paint.ensures.same c.paint.ensures.is c.push.ensures.pipe c.push.ensures.put t;
      unfinished = c.push.ensures.open;
      next = tt;
      finite = tt;
    }

pub loop-preserved : goal.loop-preserved
loop-preserved g c =
    let t = rw c.in-Ok-None.field-0-is at c.in-Ok-None.ensures.drew in
    record {
      drawn =
          drawn_none c.args.painter.now c.loop.painter c.paint.new.self c.args.put.now c.loop.put c.loop.invariant.drawn
          (c.is_over.ensures c.if-is_over.false) c.paint.ensures.same c.paint.ensures.is t;
      unfinished = c.loop.invariant.unfinished;
      next = tt;
      finite = tt;
    }

pub returns-in-Err-clause-drawn : goal.returns-in-Err-clause-drawn
returns-in-Err-clause-drawn g c =
    drawn_ended c.args.painter.now c.paint.new.self c.args.put.now c.loop.put c.finish-in-Err.new.self
    (drawn_err c.args.painter.now c.loop.painter c.paint.new.self c.args.put.now c.loop.put c.loop.invariant.drawn (c.is_over.ensures c.if-is_over.false) c.paint.ensures.same c.paint.ensures.is c.in-Err.ensures.broken c.in-Err.ensures.drew)
    c.finish-in-Err.ensures.pipe c.finish-in-Err.ensures.put
