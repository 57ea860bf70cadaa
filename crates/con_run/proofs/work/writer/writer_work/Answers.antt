use Rattle.std.proofs.Common.{rules, ap, ◌∙◌, arith}
use Rattle.con_pipe.specs.PipeEnds.{IsSameOut, pieces_taken}
use Rattle.con_pipe.specs.declared.take.PipeOut.{PipeOut}
use Rattle.con_run.proofs.Causes.{cause_then}
use Rattle.con_run.proofs.Written.{writes_on, writes_still}
use Rattle.con_run.proofs.work.writer.writer_work.Goals as goal

pub loop-preserved : goal.loop-preserved
loop-preserved g c =
    let same : IsSameOut c.args.writer.now.take c.write.new.self.take = search rules in
    record {
      pipe = same;
      wrote =
          λ before w.
          writes_on before _ _ (pieces_taken c.loop.writer.take) (pieces_taken c.write.new.self.take) c.in-Some-next.piece c.loop.writer.failed
          c.loop.writer.broken c.write.new.self.failed c.write.new.self.broken
          (ap (λ (k : PipeOut). pieces_taken k) c.write.ensures.take ∙ c.in-Some-next.ensures.piece.0)
          (c.write.ensures.wrote before (pieces_taken c.loop.writer.take)) (c.loop.invariant.wrote before w);
      fails = cause_then _ _ _ _ _ _ c.loop.invariant.fails c.write.ensures.failed c.loop.invariant.never_falls c.write.ensures.never_falls;
      never_falls = omega (arith, c.loop.invariant.never_falls, c.write.ensures.never_falls);
      next = tt;
      finite = tt;
    }

pub returns-in-None-next : goal.returns-in-None-next
returns-in-None-next g c =
    let same : IsSameOut c.args.writer.now.take c.next-in-loop.new.self = search rules in
    record {
      pipe = same;
      ended = c.in-None-next.ensures.end.1;
      wrote =
          λ before w.
          writes_still before _ (pieces_taken c.loop.writer.take) (pieces_taken c.next-in-loop.new.self) c.loop.writer.failed c.loop.writer.broken
          c.in-None-next.ensures.end.0 (c.loop.invariant.wrote before w);
      fails = c.loop.invariant.fails;
      never_falls = c.loop.invariant.never_falls;
    }
