use Rattle.con_handles.specs.CountLaws.{count_laws}
use Rattle.con_handles.proofs.laws.is_counted.Goals as goal

pub returns : goal.returns
returns c = count_laws
