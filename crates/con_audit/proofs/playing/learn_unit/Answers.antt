-- The item that a unit completes, or none.
use Rattle.con_audit.specs.Playing.{partial_of}
use Rattle.con_audit.proofs.PlayLemmas.{unit_any}
use Rattle.con_audit.proofs.playing.learn_unit.Goals as goal

pub returns-clause-typed : goal.returns-clause-typed
returns-clause-typed c = λ b. unit_any (partial_of b c.args.page.now c.args.units.now c.args.marks.now c.args.flags) c.args.unit _ _ _ _ c.advance-found.ensures.items c.advance-found.ensures.tail (rw c.sequence.ensures at c.learn.ensures.page) (rw c.sequence.ensures at c.learn.ensures.known)
