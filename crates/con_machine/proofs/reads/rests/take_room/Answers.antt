-- The rest at its place is what it was.
use Rattle.std.proofs.Common.{◌∙◌, set, ap}
use Rattle.std.proofs.lemmas.List.{set-get_or}
use Rattle.con_machine.proofs.reads.rests.take_room.Goals as goal

pub returns-then-i-rests-clause-same : goal.returns-then-i-rests-clause-same
returns-then-i-rests-clause-same c = ap (set c.args.rests.now c.place_of-i.result) c.take_room.ensures.same ∙ set-get_or c.args.rests.now c.place_of-i.result c.index-rests-i.result
