use Rattle.con_mirror.proofs.AttachedLemmas.{attached_anew}
use Rattle.con_mirror.proofs.attached.Attached.new.Goals as goal

pub returns-clause-attached : goal.returns-clause-attached
returns-clause-attached c = attached_anew c.in_ok-painter.painter c.args.size c.in_ok-rows.rows c.in_ok-marks.marks _ c.requires c.in_ok-painter.ensures c.in_ok-rows.ensures c.in_ok-marks.ensures
