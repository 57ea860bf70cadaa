use Rattle.std.proofs.Common.{◌≡◌, ◌-◌, ◌≤◌, ◌++◌, take, drop, length}
use Rattle.con_mouse.specs.Reports.{digits, past_digits}
use Rattle.con_mouse.proofs.numbers.count_digits.Given as goal

abbrev pub invariant-loop-n : goal.invariant-loop-n
invariant-loop-n l = record {
  within : l.n ≤ length l.bytes;
  front : take l.n l.bytes ++ digits (drop l.n l.bytes) ≡ digits l.bytes;
  rest : past_digits (drop l.n l.bytes) ≡ past_digits l.bytes;
}

abbrev pub decreases-loop-n : goal.decreases-loop-n
decreases-loop-n l = length l.bytes - l.n
