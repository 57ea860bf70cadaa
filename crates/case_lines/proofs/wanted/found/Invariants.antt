-- they stand at no place so far
use Rattle.std.proofs.Common.{◌≡◌, ◌≤◌, ◌<◌, ℕ, false, drop, map}
use Rattle.std.specs.Prelude.{string_bytes}
use Rattle.case_lines.specs.Wanted.{begins_with}
use Rattle.case_lines.proofs.wanted.found.Given as goal

abbrev pub invariant-loop-at : goal.invariant-loop-at
invariant-loop-at l =
    (k : ℕ) → l.from ≤ k → k < l.at → begins_with l.way (map (λ w. string_bytes w.text) l.wanted) (map (λ r. r.now) (drop k l.lines)) ≡ false
