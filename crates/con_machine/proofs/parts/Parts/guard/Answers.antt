use Rattle.con_machine.proofs.Live.{live_look}
use Rattle.con_machine.proofs.parts.Parts.guard.Goals as goal

pub returns-clause-live : goal.returns-clause-live
returns-clause-live c = rw (← c.self.view_is) (live_look c.self.inside.screens c.self.inside.handles.open_ones c.args.p c.args.h c.args.kind c.args.right c.look.result c.self.invariant.buffers c.self.invariant.counted c.look.ensures.answer)
