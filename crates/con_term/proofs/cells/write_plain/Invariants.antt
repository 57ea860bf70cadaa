-- The bytes so far.
use Rattle.std.proofs.Common.{◌≡◌, ◌≤◌, ◌-◌, true, take, map}
use Rattle.std.specs.List.{list_all}
use Rattle.con_units.specs.Glyph.{cell_of}
use Rattle.con_units.specs.Plain.{is_plain}
use Rattle.con_term.specs.Run.{pasted}
use Rattle.con_term.proofs.cells.write_plain.Given as goal

abbrev pub invariant-loop-at : goal.invariant-loop-at
invariant-loop-at l = (l.at ≤ l.most) × (list_all is_plain (take l.at l.bytes) ≡ true) × (l.cells ≡ pasted l.fn.cells l.from (map (λ u. cell_of u l.attr) (take l.at l.bytes)))

abbrev pub decreases-loop-at : goal.decreases-loop-at
decreases-loop-at l = l.most - l.at
