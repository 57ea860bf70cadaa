use Rattle.con_machine.specs.State.{is_rest_of}
use Rattle.con_machine.proofs.Places.{place-found, place-none}
use Rattle.con_machine.proofs.reads.rests.place_of.Goals as goal

pub returns-in-Some : goal.returns-in-Some
returns-in-Some c = place-found (is_rest_of c.args.process c.args.handle) c.args.rests.now c.in-Some.i c.in-Some.ensures

pub returns-in-None : goal.returns-in-None
returns-in-None c = place-none (is_rest_of c.args.process c.args.handle) c.args.rests.now c.in-None.ensures
