-- what is left tells
use Rattle.std.proofs.Common.{◌≡◌, drop}
use Rattle.std.specs.List.{list_all}
use Rattle.con_units.specs.Units.{is_space}
use Rattle.case_lines.proofs.wanted.are_spaces.Given as goal

abbrev pub invariant-loop-c : goal.invariant-loop-c
invariant-loop-c l = list_all is_space (drop l.c-index l.text) ≡ list_all is_space l.fn.text
