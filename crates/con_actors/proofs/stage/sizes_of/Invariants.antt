-- The sizes of the racks so far.
use Rattle.std.proofs.Common.{◌≡◌, ◌≤◌, ◌++◌, drop, length, map, vec_len, vec_capacity}
use Rattle.con_actors.proofs.stage.sizes_of.Given as goal

abbrev pub invariant-loop-rack : goal.invariant-loop-rack
invariant-loop-rack g l = (l.sizes.items ++ map (λ rack. length rack.items) (drop l.rack-index l.racks) ≡ map (λ rack. length rack.items) l.racks)
    × (vec_len l.sizes ≡ l.rack-index) × (length l.racks ≤ vec_capacity l.sizes)
