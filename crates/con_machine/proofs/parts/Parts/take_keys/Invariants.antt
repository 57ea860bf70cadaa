use Rattle.con_machine.proofs.Arriving.{AreTaken}
use Rattle.con_machine.proofs.parts.Parts.take_keys.Given as goal

abbrev pub invariant-loop-key : goal.invariant-loop-key
invariant-loop-key l = AreTaken l.fn.self.state l.self.state l.keys l.key-index l.fn.self.spare.records l.self.spare.records
