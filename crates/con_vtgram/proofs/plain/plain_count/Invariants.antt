-- The units so far.
use Rattle.std.proofs.Common.{◌≡◌, true, take}
use Rattle.std.specs.List.{list_all}
use Rattle.con_units.specs.Plain.{is_plain}
use Rattle.con_vtgram.proofs.plain.plain_count.Given as goal

abbrev pub invariant-loop-at : goal.invariant-loop-at
invariant-loop-at l = list_all is_plain (take l.at l.units) ≡ true
