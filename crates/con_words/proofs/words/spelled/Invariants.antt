-- The number so far, and the digits that are still to come.
use Rattle.std.proofs.Common.{◌≡◌, drop}
use Rattle.con_words.specs.Spelling.{spelled_after}
use Rattle.con_words.proofs.words.spelled.Given as goal

abbrev pub invariant-loop-byte : goal.invariant-loop-byte
invariant-loop-byte l = spelled_after l.number (drop l.byte-index l.digits) ≡ spelled_after 0 l.digits
