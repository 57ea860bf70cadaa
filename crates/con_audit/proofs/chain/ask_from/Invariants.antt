-- Those so far were asked.
use Rattle.std.proofs.Common.{◌≡◌, ◌≤◌}
use Rattle.con_audit.proofs.ChainLemmas.{asked_to}
use Rattle.con_audit.proofs.chain.ask_from.Given as goal

abbrev pub invariant-loop-at : goal.invariant-loop-at
invariant-loop-at l = (l.first ≤ l.at) × (l.links ≡ asked_to l.first l.at l.fn.links)
