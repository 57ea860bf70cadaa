use Rattle.std.proofs.Common.{◌≡◌, ◌≤◌, length, take, map, pos, vec_capacity}
use Rattle.con_machine.proofs.calls.process_calls.numbers_of.Given as goal

abbrev pub invariant-loop-id : goal.invariant-loop-id
invariant-loop-id l = (l.room.items ≡ map (λ id. pos id) (take l.id-index l.ids)) × (length l.ids ≤ vec_capacity l.room)
