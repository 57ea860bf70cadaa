-- The place, or the length.
use Rattle.con_readers.specs.Reads.{is_open_line}
use Rattle.con_readers.proofs.Places.{place_some, place_none}
use Rattle.con_readers.proofs.readers.find_line.Goals as goal

pub returns-in-Some : goal.returns-in-Some
returns-in-Some c = place_some is_open_line c.args.reads.now c.in-Some.i c.in-Some.ensures

pub returns-in-None : goal.returns-in-None
returns-in-None c = place_none is_open_line c.args.reads.now c.in-None.ensures
