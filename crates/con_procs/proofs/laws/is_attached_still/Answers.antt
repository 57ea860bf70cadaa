use Rattle.con_procs.specs.AttachedLaws.{attached_laws}
use Rattle.con_procs.proofs.laws.is_attached_still.Goals as goal

pub returns : goal.returns
returns c = attached_laws
