-- the digits so far, and those that are still to come
use Rattle.std.proofs.Common.{◌≡◌, ◌≤◌, ◌+◌, length, drop}
use Rattle.case_lines.specs.Wanted.{number_len}
use Rattle.case_lines.proofs.wanted.digits.Given as goal

abbrev pub invariant-loop-at : goal.invariant-loop-at
invariant-loop-at l = (l.at ≤ length l.text) × (l.at + number_len (drop l.at l.text) ≡ number_len l.text)
