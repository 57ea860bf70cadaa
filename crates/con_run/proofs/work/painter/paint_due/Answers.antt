use Rattle.std.proofs.Common.{arith, true, false}
use Rattle.con_threads.specs.ScribeLaws.{same_then}
use Rattle.con_run.proofs.Turning.{to_some, to_end, to_ends, finished_none, finished_some, finished_err}
use Rattle.con_run.proofs.work.painter.paint_due.Goals as goal

pub returns-in_err-paint_to-clause-finished : goal.returns-in_err-paint_to-clause-finished
returns-in_err-paint_to-clause-finished g c =
    finished_err c.from_residual.result c.args.painter.now c.paint_to.new.painter (g.O.Sink.written c.args.term.now)
    (g.O.Sink.written c.paint_to.new.term) c.args.failed c.from_residual.ensures.0 c.if-failed.false
    (to_ends c.args.painter.now c.loop.painter c.paint_to.new.painter (g.O.Sink.written c.args.term.now) (g.O.Sink.written c.loop.term) (g.O.Sink.written c.paint_to.new.term) c.loop.invariant.same c.loop.invariant.canvas c.in_err-paint_to.ensures.drew)

pub returns-in-None-2-clause-finished : goal.returns-in-None-2-clause-finished
returns-in-None-2-clause-finished g c =
    let t = rw c.in-None-2.is at c.in_ok-paint_to.ensures.drew in
    finished_none c.args.painter.now c.paint_to.new.painter (g.O.Sink.written c.args.term.now) (g.O.Sink.written c.paint_to.new.term) c.args.failed c.if-failed.false
    (to_end c.args.painter.now c.loop.painter c.paint_to.new.painter (g.O.Sink.written c.args.term.now) (g.O.Sink.written c.loop.term) (g.O.Sink.written c.paint_to.new.term) c.loop.invariant.same c.loop.invariant.canvas t)

pub returns-in-Some-true-clause-finished : goal.returns-in-Some-true-clause-finished
returns-in-Some-true-clause-finished g c =
    let t = rw c.in-Some-true.is at c.in_ok-paint_to.ensures.drew in
    finished_some c.args.painter.now c.paint_to.new.painter (g.O.Sink.written c.args.term.now)
    (g.O.Sink.written c.paint_to.new.term) c.args.failed true c.if-failed.false
    (to_some c.args.painter.now c.loop.painter c.paint_to.new.painter (g.O.Sink.written c.args.term.now) (g.O.Sink.written c.loop.term) (g.O.Sink.written c.paint_to.new.term) c.in-Some-true.field-0 true c.in-Some-true.field-0-test c.loop.invariant.same c.loop.invariant.canvas t)

pub loop-preserved : goal.loop-preserved
loop-preserved g c =
    let t = rw c.in-Some-false.is at c.in_ok-paint_to.ensures.drew in
    record {
      same = same_then c.args.painter.now.scribe c.loop.painter.scribe c.paint_to.new.painter.scribe c.loop.invariant.same c.paint_to.ensures.same;
      is_painter = c.paint_to.ensures.is;
      whole = c.in_ok-paint_to.ensures.whole;
      never_falls = omega (arith, c.loop.invariant.never_falls, c.paint_to.ensures.never_falls);
      canvas =
          to_some c.args.painter.now c.loop.painter c.paint_to.new.painter (g.O.Sink.written c.args.term.now) (g.O.Sink.written c.loop.term)
          (g.O.Sink.written c.paint_to.new.term) c.in-Some-false.field-0 false c.in-Some-false.field-0-test c.loop.invariant.same c.loop.invariant.canvas t;
      next = tt;
      finite = tt;
    }
