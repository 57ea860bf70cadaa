-- What was read, to the end or to a place where no frame stands.
use Rattle.std.proofs.Common.{ap, ◌∙◌}
use Rattle.std.specs.Prelude.{Err}
use Rattle.con_audit.proofs.Links.{read_whole, read_front, never_long, never_fails}
use Rattle.con_audit.proofs.frames.frames_of.Goals as goal

pub returns-in-Ok : goal.returns-in-Ok
returns-in-Ok c = read_whole _ _ _ c.in-Ok.ensures.spelled c.all_frames.ensures.frames c.in-Ok.ensures.whole

pub returns-in-Err-Bad : goal.returns-in-Err-Bad
returns-in-Err-Bad c =
    let s = rw c.in-Err-Bad.field-0-is at c.in-Err-Bad.ensures.stopped in
    read_front _ s.0 _ _ _ _ s.1 c.all_frames.ensures.frames c.in-Err-Bad.ensures.going s.2
