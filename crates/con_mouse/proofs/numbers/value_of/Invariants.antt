use Rattle.std.proofs.Common.{◌≡◌, ◌+◌, ◌≤◌, drop}
use Rattle.con_mouse.specs.Reports.{value}
use Rattle.con_mouse.proofs.Digits.{power}
use Rattle.con_mouse.proofs.numbers.value_of.Given as goal

abbrev pub invariant-loop-digit : goal.invariant-loop-digit
invariant-loop-digit l = record {
  rest : value l.n (drop l.digit-index l.digits) ≡ value 0 l.digits;
  small : l.n + 1 ≤ power l.digit-index;
}
