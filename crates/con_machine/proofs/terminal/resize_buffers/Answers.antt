use Rattle.con_machine.proofs.Resized.{resized_counts}
use Rattle.con_machine.proofs.terminal.resize_buffers.Goals as goal

pub returns-clause-counted : goal.returns-clause-counted
returns-clause-counted c = λ hs counted. rw c.resize_all.ensures.buffers (resized_counts c.args.screens.now c.args.fits.window hs counted)
