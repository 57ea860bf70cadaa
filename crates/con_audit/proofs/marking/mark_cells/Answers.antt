-- The pen of marks changes with SGR alone.
use Rattle.con_audit.specs.Known.{ink}
use Rattle.con_audit.proofs.MarkLemmas.{pen_stays}
use Rattle.con_audit.proofs.marking.mark_cells.Goals as goal

pub forget-requires : goal.forget-requires
forget-requires c = pen_stays c.args.marks.now _ _ (ink c.args.flags.pen) c.requires.pen c.apply.ensures c.requires.other
