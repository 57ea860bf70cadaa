-- The rest at its place is what it was.
use Rattle.std.proofs.Common.{◌∙◌, set, ap}
use Rattle.std.proofs.lemmas.List.{set-get_or}
use Rattle.con_machine.proofs.reads.rests.give_room.Goals as goal

pub returns-then-i-rests : goal.returns-then-i-rests
returns-then-i-rests c = ap (set c.args.rests.now c.place_of-i.result) c.give_room.ensures ∙ set-get_or c.args.rests.now c.place_of-i.result c.index-rests-i.result
