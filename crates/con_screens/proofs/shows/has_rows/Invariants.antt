use Rattle.std.proofs.Common.{◌≡◌, ◌*◌, take}
use Rattle.con_screens.specs.View.{rows_in}
use Rattle.con_screens.proofs.shows.has_rows.Given as goal

abbrev pub invariant-loop-y : goal.invariant-loop-y
invariant-loop-y l = rows_in l.grid.width l.grid.cells l.left l.top l.fn.size.w l.y ≡ take (l.y * l.fn.size.w) l.rows
