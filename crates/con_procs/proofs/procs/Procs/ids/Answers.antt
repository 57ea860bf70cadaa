-- One number more, or none, and the end.
use Rattle.std.proofs.Common.{◌<◌, ◌≤◌, ◌∙◌, length, arith}
use Rattle.con_procs.proofs.Changes.{ids_more, ids_end}
use Rattle.con_procs.proofs.procs.Procs.ids.Goals as goal

pub loop-i-preserved : goal.loop-i-preserved
loop-i-preserved c =
    let within : c.loop-i.i < length c.self.inside.procs.items = omega arith in
    record {
      ids = ids_more c.self.inside.procs.items c.loop-i.i c.loop-i.out.items _ _ c.index-p.result.now within c.index-p.ensures c.tell_id.ensures.items c.loop-i.invariant.ids;
      room = c.tell_id.ensures.room ∙ c.loop-i.invariant.room;
      len = omega arith;
      end = c.loop-i.invariant.end;
    }

pub returns-clause-ids : goal.returns-clause-ids
returns-clause-ids c =
    let past : length c.self.inside.procs.items ≤ c.loop-i.i = omega arith in
    rw (← c.self.view_is) (ids_end c.self.inside.procs.items c.loop-i.i c.loop-i.out.items _ past c.loop-i.invariant.ids)
