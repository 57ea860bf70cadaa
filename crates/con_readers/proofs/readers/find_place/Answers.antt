-- The place, or the length.
use Rattle.con_readers.specs.Words.Reads.{is_of}
use Rattle.con_readers.proofs.Places.{place_some, place_none}
use Rattle.con_readers.proofs.readers.find_place.Goals as goal

pub returns-in-Some : goal.returns-in-Some
returns-in-Some c = place_some (is_of c.args.process) c.args.reads.now c.in-Some.i c.in-Some.ensures

pub returns-in-None : goal.returns-in-None
returns-in-None c = place_none (is_of c.args.process) c.args.reads.now c.in-None.ensures
