use Rattle.std.proofs.Common.{◌≡◌, drop}
use Rattle.con_lines.specs.Told.{digits_after}
use Rattle.con_lines.proofs.saying.small_number.Given as goal

abbrev pub invariant-loop-digit : goal.invariant-loop-digit
invariant-loop-digit l = digits_after l.n (drop l.digit-index l.digits) ≡ digits_after 0 l.digits
