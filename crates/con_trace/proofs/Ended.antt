-- A line of which nothing was written.
use Rattle.std.proofs.Common.{ℕ, zero, ◌<◌, List, [], ◌∷◌, length, Option, arith}
use Rattle.con_outside.specs.Laws.{then_written-none}
use Rattle.con_outside.specs.Outside.{WrotePart}
use Rattle.con_lines.specs.Line.{ended}

ends_later : (text : List ℕ) → 0 < length (ended text)
ends_later [] = omega arith
ends_later (x ∷ text) = omega arith

pub nothing_yet : (text : List ℕ) (written : Option (List ℕ)) → WrotePart (ended text) written written
nothing_yet text written = (zero, ends_later text, then_written-none written)
