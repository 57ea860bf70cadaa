use Rattle.con_laws.specs.OpeningLaws.{opens}
use Rattle.con_laws.proofs.session.a_session_opens.Goals as goal

pub returns : goal.returns
returns c = opens
