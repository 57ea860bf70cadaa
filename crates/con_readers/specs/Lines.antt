-- The text of a line read.
use Rattle.std.specs.Prelude.{ℕ, List}
use Rattle.con_cooked.specs.declared.cooked.Cooked.{Cooked}
use Rattle.con_cooked.specs.Cooked.{line_of}

-- the text of a line read so far
abbrev pub line_text : Cooked → List ℕ
line_text line = (line_of line).line.units
