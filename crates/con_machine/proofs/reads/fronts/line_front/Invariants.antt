use Rattle.std.proofs.Common.{◌≡◌, ◌≤◌, ◌+◌, ◌-◌, length, drop}
use Rattle.con_machine.specs.Reads.{line_front}
use Rattle.con_machine.proofs.reads.fronts.line_front.Given as goal

abbrev pub invariant-loop-k : goal.invariant-loop-k
invariant-loop-k l = (l.k + line_front (l.n - l.k) (drop l.k l.units) ≡ line_front l.n l.units) × (l.k ≤ length l.units) × (l.k ≤ l.n)

abbrev pub decreases-loop-k : goal.decreases-loop-k
decreases-loop-k l = length l.units - l.k
