-- The units so far lie between the least and the greatest.
use Rattle.std.proofs.Common.{◌≡◌, take, true}
use Rattle.std.specs.List.{list_all}
use Rattle.std.specs.Int.{is_in_range}
use Rattle.con_page.proofs.front.are_printable.Given as goal

abbrev pub invariant-loop-unit : goal.invariant-loop-unit
invariant-loop-unit l = list_all (is_in_range l.least l.most) (take l.unit-index l.units) ≡ true
