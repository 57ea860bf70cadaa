use Rattle.std.proofs.Common.{rules}
use Rattle.con_vtin.proofs.Lists.{kept_is}
use Rattle.con_vtin.proofs.ended.Ended.keep.Goals as goal

pub returns : goal.returns
returns c = kept_is c.args.held.now c.copy_from_slice.new.self _ c.args.byte c.copy_from_slice.ensures.after (search rules)
