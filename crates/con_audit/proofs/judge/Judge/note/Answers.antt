-- A client's number is one of the session's.
use Rattle.con_audit.proofs.Behind.{may_bounds}
use Rattle.con_audit.proofs.judge.Judge.note.Goals as goal

pub go_on-requires : goal.go_on-requires
go_on-requires c = may_bounds c.args.self.now.tracks.items c.args.self.now.side c.args.actor c.args.event.now _ c.in-Client.is c.requires
