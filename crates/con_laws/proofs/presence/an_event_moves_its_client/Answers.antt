use Rattle.con_laws.specs.PresenceLaws.{own_does}
use Rattle.con_laws.proofs.presence.an_event_moves_its_client.Goals as goal

pub returns : goal.returns
returns c = own_does
