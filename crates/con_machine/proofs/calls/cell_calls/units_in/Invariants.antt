use Rattle.std.proofs.Common.{◌≡◌, ◌≤◌, length, map, take, vec_capacity}
use Rattle.con_machine.proofs.calls.cell_calls.units_in.Given as goal

abbrev pub invariant-loop-cell : goal.invariant-loop-cell
invariant-loop-cell l = (l.room.items ≡ map (λ g. g.unit) (take l.cell-index l.cells)) × (length l.cells ≤ vec_capacity l.room)
