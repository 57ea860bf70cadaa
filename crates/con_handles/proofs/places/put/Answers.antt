use Rattle.std.proofs.Common.{◌<◌, ◌-◌, ◌+◌, ◌*◌, arith, sym, length}
use Rattle.con_handles.proofs.Listed.{put_is}
use Rattle.con_handles.proofs.places.put.Goals as goal

pub returns : goal.returns
returns c =
    let within : c.args.process * 64 + (c.args.number - 1) < length c.args.places.now = omega arith in
    rw c.place.ensures.is (sym (put_is c.args.places.now c.args.process c.args.number c.args.held c.requires.low c.requires.high within c.requires.free))
