use Rattle.std.proofs.Common.{◌≡◌, ◌++◌, take, drop}
use Rattle.con_grid.specs.Words.Picture.{glyphs_of}
use Rattle.con_grid.proofs.parts.show_plain.Given as goal

abbrev pub invariant-loop-k : goal.invariant-loop-k
invariant-loop-k l = l.row ≡ glyphs_of (take l.k l.units) l.attr ++ drop l.k l.fn.row
