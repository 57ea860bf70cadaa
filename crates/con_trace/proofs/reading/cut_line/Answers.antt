use Rattle.con_trace.proofs.Gather.{cut_some, cut_none}
use Rattle.con_trace.proofs.reading.cut_line.Goals as goal

pub returns-in-Some : goal.returns-in-Some
returns-in-Some c = cut_some c.args.text.now c.in-Some.k c.in-Some.ensures.place

pub returns-in-None : goal.returns-in-None
returns-in-None c = cut_none c.args.text.now c.in-None.ensures.place
