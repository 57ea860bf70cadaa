use Rattle.con_link.proofs.MirrorFrames.{retagged}
use Rattle.con_link.proofs.mirror.mirror_frame.Goals as goal

pub returns-in-65-clause-took : goal.returns-in-65-clause-took
returns-in-65-clause-took g c =
    let u = c.resize_frame.ensures.took in
    (u.0, u.1, u.2, rw (c.as_attach.ensures, c.in-65.is) (retagged c.resize_frame.result c.args.place u.0 _ u.3))
