use Rattle.std.proofs.Common.{◌≤◌, vec_capacity}
use Rattle.con_machine.proofs.Arriving.{AreFed}
use Rattle.con_machine.proofs.parts.Parts.feed.Given as goal

abbrev pub invariant-loop-byte : goal.invariant-loop-byte
invariant-loop-byte l = record {
  fed : AreFed l.fn.self.state l.self.state l.bytes l.byte-index l.self.spare.records;
  keys : 64 ≤ vec_capacity l.keys;
}
