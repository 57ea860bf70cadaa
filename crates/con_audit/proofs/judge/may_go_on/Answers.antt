-- A client of the session, or none.
use Rattle.con_audit.proofs.Behind.{no_client, client_may}
use Rattle.con_audit.proofs.judge.may_go_on.Goals as goal

pub returns-then-not-is_one_of : goal.returns-then-not-is_one_of
returns-then-not-is_one_of c = λ s. no_client c.args.tracks.now s c.args.p c.args.event.now c.is_one_of.result c.is_one_of.ensures c.if-not-is_one_of.true

pub returns : goal.returns
returns c = λ s. client_may c.args.tracks.now s c.args.p c.args.event.now c.is_one_of.result c.may.result _ c.is_one_of.ensures c.if-not-is_one_of.false c.index-tracks-p.is c.may.ensures
