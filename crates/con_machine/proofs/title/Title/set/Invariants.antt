use Rattle.std.proofs.Common.{◌≡◌, ◌≤◌, length, take, vec_capacity}
use Rattle.con_machine.proofs.title.Title.set.Given as goal

abbrev pub invariant-loop-unit : goal.invariant-loop-unit
invariant-loop-unit l = (l.self-inside.units.items ≡ take l.unit-index l.units) × (length l.units ≤ 255) × (255 ≤ vec_capacity l.self-inside.units)
