use Rattle.tests_mirror.proofs.AnyTerminal.{since_itself}
use Rattle.tests_mirror.proofs.callers.show_again.Goals as goal

pub paint-requires-clause-marks : goal.paint-requires-clause-marks
paint-requires-clause-marks c = since_itself _ c.args.view.now c.args.marks.now c.requires.given c.requires.marks
