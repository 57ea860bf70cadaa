use Rattle.con_machine.specs.Words.State.{is_noted}
use Rattle.con_machine.proofs.Places.{place-found, place-none}
use Rattle.con_machine.proofs.reads.notes.place_of.Goals as goal

pub returns-in-Some : goal.returns-in-Some
returns-in-Some c = place-found (is_noted c.args.process) c.args.notes.now c.in-Some.i c.in-Some.ensures

pub returns-in-None : goal.returns-in-None
returns-in-None c = place-none (is_noted c.args.process) c.args.notes.now c.in-None.ensures
