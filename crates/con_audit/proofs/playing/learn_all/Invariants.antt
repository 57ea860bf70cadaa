-- The bytes so far.
use Rattle.std.proofs.Common.{◌≡◌, take}
use Rattle.con_audit.specs.Known.{marked}
use Rattle.con_audit.specs.Partial.{played}
use Rattle.con_audit.specs.Flags.{known_by}
use Rattle.con_audit.specs.Playing.{partial_of}
use Rattle.con_audit.proofs.playing.learn_all.Given as goal

abbrev pub invariant-loop-byte : goal.invariant-loop-byte
invariant-loop-byte l = (partial_of l.bytes l.page l.units l.marks l.known ≡ played (partial_of l.fn.bytes l.fn.page l.fn.units l.fn.marks l.fn.flags) (take l.byte-index l.input))
    × (l.marks ≡ marked l.page (known_by l.marks l.known))
