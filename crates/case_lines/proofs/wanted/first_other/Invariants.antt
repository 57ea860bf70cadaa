-- what is left of the lines tells of what is left of the wanted ones
use Rattle.std.proofs.Common.{◌≡◌, ◌+◌, drop, map}
use Rattle.std.specs.Prelude.{string_bytes}
use Rattle.case_lines.specs.Wanted.{begins_with, same_len}
use Rattle.case_lines.proofs.wanted.first_other.Given as goal

abbrev pub invariant-loop-at : goal.invariant-loop-at
invariant-loop-at l =
    (begins_with l.way (map (λ w. string_bytes w.text) (drop l.at l.wanted)) (map (λ r. r.now) (drop l.at l.lines))
    ≡ begins_with l.way (map (λ w. string_bytes w.text) l.wanted) (map (λ r. r.now) l.lines))
    × (l.at + same_len l.way (map (λ w. string_bytes w.text) (drop l.at l.wanted)) (map (λ r. r.now) (drop l.at l.lines))
    ≡ same_len l.way (map (λ w. string_bytes w.text) l.wanted) (map (λ r. r.now) l.lines))
