use Rattle.std.proofs.Common.{◌≡◌, ◌≤◌, length, take, vec_capacity}
use Rattle.con_machine.proofs.calls.copies.text_in.Given as goal

abbrev pub invariant-loop-unit : goal.invariant-loop-unit
invariant-loop-unit l = (l.list.items ≡ take l.unit-index l.units) × (length l.units ≤ vec_capacity l.list)
