use Rattle.std.proofs.Common.{◌<◌, ◌+◌, length, ap, arith}
use Rattle.con_procs.proofs.Programs.{rank_more}
use Rattle.con_procs.proofs.procs.rank.Goals as goal

pub loop-i-preserved : goal.loop-i-preserved
loop-i-preserved c =
    let within : c.loop-i.i < length c.args.procs.now = omega arith in
    record {
      count = rank_more c.args.procs.now c.loop-i.i c.loop-i.at _ c.index-procs-i.result within c.index-procs-i.is c.loop-i.invariant.count (ap (λ n. c.loop-i.at + n) c.weight-at.ensures.is);
      few = omega arith;
    }
