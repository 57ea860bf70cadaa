-- What is still to be served comes to the same, and there is less of it.
use Rattle.std.proofs.Common.{◌≡◌}
use Rattle.con_readers.specs.Words.Reads.{work}
use Rattle.con_machine.specs.Serving.{settled_state}
use Rattle.con_machine.proofs.parts.Parts.settle.Given as goal

abbrev pub invariant-loop : goal.invariant-loop
invariant-loop l = (settled_state l.self.state ≡ settled_state l.fn.self.state) × (l.self.spare ≡ l.fn.self.spare)

abbrev pub decreases-loop : goal.decreases-loop
decreases-loop l = work l.self.state.reads l.self.state.records
