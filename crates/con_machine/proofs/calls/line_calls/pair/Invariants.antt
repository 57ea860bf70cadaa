use Rattle.std.proofs.Common.{◌≡◌, ◌≤◌, ◌+◌, ◌++◌, ◌∷◌, length, take, vec_capacity}
use Rattle.con_machine.proofs.calls.line_calls.pair.Given as goal

abbrev pub invariant-loop-unit : goal.invariant-loop-unit
invariant-loop-unit l = (l.room.items ≡ take l.unit-index l.source) × (length l.source + 1 + length l.target ≤ vec_capacity l.room)

abbrev pub invariant-loop-unit-2 : goal.invariant-loop-unit-2
invariant-loop-unit-2 l = (l.room.items ≡ l.source ++ 0x3D ∷ take l.unit-index l.target) × (length l.source + 1 + length l.target ≤ vec_capacity l.room)
