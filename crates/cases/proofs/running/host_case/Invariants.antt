use Rattle.std.proofs.Common.{◌≤◌, length}
use Rattle.std.specs.Prelude.{All}
use Rattle.cases.proofs.running.host_case.Given as goal

-- each rack has few handlers
abbrev pub invariant-loop : goal.invariant-loop
invariant-loop g l = All (λ rack. length rack.items ≤ 255) l.racks.items
