use Rattle.std.proofs.Common.{◌≡◌, ◌++◌, drop}
use Rattle.con_lines.specs.Hex.{hex_units}
use Rattle.con_lines.specs.Shown.{cell_words}
use Rattle.con_lines.proofs.hex.push_cells.Given as goal

abbrev pub invariant-loop-cell : goal.invariant-loop-cell
invariant-loop-cell l = l.out.items ++ hex_units (cell_words (drop l.cell-index l.cells)) ≡ l.initial.out.items ++ hex_units (cell_words l.cells)
