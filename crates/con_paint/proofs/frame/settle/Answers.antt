-- Nothing.
use Rattle.std.proofs.Common.{false}
use Rattle.con_paint.proofs.PlaceLemmas.{not_settled}
use Rattle.con_paint.proofs.frame.settle.Goals as goal

pub returns-then-not-caret-clause-leads : goal.returns-then-not-caret-clause-leads
returns-then-not-caret-clause-leads c = λ s h at. not_settled c.args.caret.visible _ s (record s { x = c.args.caret.x; y = c.args.caret.y; pending = false }) c.if-not-caret.true
