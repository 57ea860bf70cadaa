use Rattle.con_machine.proofs.Live.{live_gone}
use Rattle.con_machine.proofs.Opening.{closed_counts}
use Rattle.con_machine.proofs.Painted.{released_painted}
use Rattle.con_machine.specs.Sound.{HasLive}
use Rattle.con_machine.proofs.parts.Parts.close.Goals as goal

pub release-requires-clause-live : goal.release-requires-clause-live
release-requires-clause-live c = live_gone c.self.inside.screens c.self.inside.handles.open_ones c.close.new.self.open_ones c.in-Ok.object c.self.invariant.buffers c.self.invariant.counted c.in-Ok.ensures.counted

pub invariant_of-self-in-Ok : goal.invariant_of-self-in-Ok
invariant_of-self-in-Ok c =
    let live : HasLive c.self.inside.screens c.in-Ok.object = live_gone c.self.inside.screens c.self.inside.handles.open_ones c.close.new.self.open_ones c.in-Ok.object c.self.invariant.buffers c.self.invariant.counted c.in-Ok.ensures.counted in
    record {
      buffers = c.release.ensures.kept;
      counted = closed_counts c.self.inside.screens c.release.new.screens c.self.inside.handles.open_ones c.close.new.self.open_ones c.in-Ok.object c.self.invariant.counted live c.in-Ok.ensures.counted c.release.ensures.is;
      handles = c.close.ensures.table;
      seen_was = rw c.without-self-inside.ensures (released_painted c.self.inside.screens c.release.new.screens c.in-Ok.object c.self.inside.seen c.self.inside.painted c.release.ensures.is c.self.invariant.seen_was);
    }
