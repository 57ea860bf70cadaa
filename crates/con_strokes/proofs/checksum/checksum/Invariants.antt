-- The cells so far.
use Rattle.std.proofs.Common.{◌≡◌, take}
use Rattle.con_strokes.specs.Checksum.{checksum_of}
use Rattle.con_strokes.proofs.checksum.checksum.Given as goal

abbrev pub invariant-loop-i : goal.invariant-loop-i
invariant-loop-i l = l.sum ≡ checksum_of (take l.i l.row)
