-- No character.
use Rattle.con_audit.specs.Playing.{partial_of}
use Rattle.con_audit.proofs.PlayLemmas.{typed_partial-none}
use Rattle.con_audit.proofs.playing.learn_if.Goals as goal

pub returns-in-None-clause-typed : goal.returns-in-None-clause-typed
returns-in-None-clause-typed c = rw c.in-None.is (λ b. typed_partial-none (partial_of b c.args.page.now c.args.units.now c.args.marks.now c.args.flags))
