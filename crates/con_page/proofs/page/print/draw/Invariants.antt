-- The lines so far.
use Rattle.std.proofs.Common.{◌≡◌, length, map, take}
use Rattle.con_page.specs.Print.{line_of}
use Rattle.con_page.proofs.page.print.draw.Given as goal

abbrev pub invariant-loop-k : goal.invariant-loop-k
invariant-loop-k l = (length l.lines ≡ 64) × (take l.k l.lines ≡ map line_of (take l.k l.units))
