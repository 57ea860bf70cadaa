use Rattle.con_laws.specs.PresenceLaws.{others_stay}
use Rattle.con_laws.proofs.presence.an_event_leaves_other_clients.Goals as goal

pub returns : goal.returns
returns c = others_stay
