-- The counts so far.
use Rattle.std.proofs.Common.{◌≡◌, ◌≤◌, ◌++◌, drop, length, map, vec_len, vec_capacity}
use Rattle.con_audit.proofs.judge.counts_of.Given as goal

abbrev pub invariant-loop-rack : goal.invariant-loop-rack
invariant-loop-rack l = (l.counts.items ++ map (λ kinds. length kinds) (drop l.rack-index l.racks) ≡ map (λ kinds. length kinds) l.racks) × (vec_len l.counts ≡ l.rack-index)
    × (length l.racks ≤ vec_capacity l.counts)
