use Rattle.std.proofs.Common.{◌≡◌, ◌≤◌, length, map, take, vec_capacity}
use Rattle.con_alias.specs.Aliases.{entries_in}
use Rattle.con_machine.specs.LineCalls.{pair_of}
use Rattle.con_machine.proofs.calls.line_calls.pairs.Given as goal

abbrev pub invariant-loop-k : goal.invariant-loop-k
invariant-loop-k l = (l.room.items ≡ map pair_of (take l.k (entries_in l.aliases.programs l.program))) × (length (entries_in l.aliases.programs l.program) ≤ vec_capacity l.room) × (l.count ≡ length (entries_in l.aliases.programs l.program))
