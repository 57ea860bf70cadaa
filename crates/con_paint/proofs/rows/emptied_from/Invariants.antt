-- The last rows.
use Rattle.std.proofs.Common.{◌≡◌, ◌+◌, ◌-◌, ◌*◌, drop, replicate}
use Rattle.con_units.specs.Glyph.{blank_cell}
use Rattle.con_paint.specs.Frame.{rows_to_paint}
use Rattle.con_paint.proofs.rows.emptied_from.Given as goal

abbrev pub invariant-loop-k : goal.invariant-loop-k
invariant-loop-k l = (drop ((l.fn.size.h - l.k) * l.fn.size.w) l.cells ≡ replicate (l.k * l.fn.size.w) blank_cell) × (rows_to_paint l.known l.fn.size.w l.fn.size.h l.cells l.shadow ≡ rows_to_paint l.known l.fn.size.w (l.fn.size.h - l.k) l.cells l.shadow + l.k)
