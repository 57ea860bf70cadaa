-- A client's own test.
use Rattle.con_audit.proofs.judge.may_stand.Goals as goal

pub returns-in-Client : goal.returns-in-Client
returns-in-Client c = rw c.in-Client.is (c.may_go_on.ensures c.args.side.now)
