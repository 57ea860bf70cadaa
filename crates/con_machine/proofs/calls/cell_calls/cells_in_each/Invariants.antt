use Rattle.std.proofs.Common.{◌≡◌, ◌≤◌, length, take, vec_len, vec_capacity}
use Rattle.con_machine.specs.Words.CellCalls.{paired}
use Rattle.con_machine.proofs.calls.cell_calls.cells_in_each.Given as goal

abbrev pub invariant-loop-i : goal.invariant-loop-i
invariant-loop-i l = (l.room.items ≡ paired (take l.i l.units) (take l.i l.words)) × (vec_len l.room ≡ l.i) × (length l.units ≤ vec_capacity l.room)
