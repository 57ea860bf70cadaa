use Rattle.tests_mirror.proofs.AnyTerminal.{first_shows, since_none}
use Rattle.tests_mirror.proofs.callers.attach_and_show.Goals as goal

pub paint-requires-clause-marks : goal.paint-requires-clause-marks
paint-requires-clause-marks c = since_none _ c.args.view.now c.args.marks.now c.in_ok-attach.ensures.1 c.requires.marks

pub returns-clause-shows : goal.returns-clause-shows
returns-clause-shows c = rw (← c.reserve.ensures.items)
    (first_shows c.args.size.w c.args.size.h c.attach.new.self.kept c.paint.new.self.kept c.args.view.now _ c.in_ok-attach.ensures.0 c.paint.ensures.paints)
