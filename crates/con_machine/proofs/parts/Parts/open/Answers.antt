use Rattle.con_machine.proofs.Opening.{counts_few, opened_counts}
use Rattle.con_machine.proofs.parts.Parts.open.Goals as goal

pub retain-requires-clause-few : goal.retain-requires-clause-few
retain-requires-clause-few c = counts_few c.self.inside.screens c.self.inside.handles.open_ones c.self.invariant.counted c.self.invariant.handles

pub invariant_of-self-in-Ok : goal.invariant_of-self-in-Ok
invariant_of-self-in-Ok c =
    let live = rw (← c.self.view_is) at c.requires.live in
    record {
      buffers = c.retain.ensures.kept;
      counted = opened_counts c.self.inside.screens c.retain.new.screens c.self.inside.handles.open_ones c.open.new.self.open_ones c.args.object c.self.invariant.counted live c.in-Ok.ensures.counted c.retain.ensures.is;
      handles = c.open.ensures.table;
      seen_was = rw c.retain.ensures.remembered c.self.invariant.seen_was;
    }
