use Rattle.con_units.proofs.NearLemmas.{near_so}
use Rattle.con_units.proofs.shade.is_near_by_parts.Goals as goal

pub returns : goal.returns
returns c = near_so
