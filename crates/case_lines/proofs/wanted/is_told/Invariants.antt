-- what is left of the line is told of by what is left of the wanted one
use Rattle.std.proofs.Common.{◌≡◌, drop}
use Rattle.case_lines.specs.Wanted.{is_told}
use Rattle.case_lines.proofs.wanted.is_told.Given as goal

abbrev pub invariant-loop-sign : goal.invariant-loop-sign
invariant-loop-sign l = is_told (drop l.sign-index l.signs) l.rest ≡ is_told l.fn.wanted l.fn.line
