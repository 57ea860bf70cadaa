-- What is to come tells.
use Rattle.std.proofs.Common.{◌≡◌, drop}
use Rattle.con_audit.specs.Audit.{last_end}
use Rattle.con_audit.proofs.judge.last_end.Given as goal

abbrev pub invariant-loop-next : goal.invariant-loop-next
invariant-loop-next l = last_end l.end (drop l.next-index l.ends) ≡ last_end 0 l.fn.ends
