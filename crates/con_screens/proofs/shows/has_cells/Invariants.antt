use Rattle.std.proofs.Common.{◌≡◌, take, drop}
use Rattle.con_screens.proofs.shows.has_cells.Given as goal

abbrev pub invariant-loop-x : goal.invariant-loop-x
invariant-loop-x l = take l.x (drop l.at l.grid.cells) ≡ take l.x l.cells
