use Rattle.std.proofs.Common.{◌≡◌, ◌≤◌, length, take, vec_capacity}
use Rattle.con_machine.proofs.calls.copies.numbers.Given as goal

abbrev pub invariant-loop-number : goal.invariant-loop-number
invariant-loop-number l = (l.room.items ≡ take l.number-index l.list) × (length l.list ≤ vec_capacity l.room)
