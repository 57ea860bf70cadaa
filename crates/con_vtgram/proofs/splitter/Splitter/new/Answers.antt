-- No units leave no tail.
use Rattle.std.proofs.Common.{rules}
use Rattle.con_vtgram.proofs.RunLemmas.{split-none}
use Rattle.con_vtgram.proofs.splitter.Splitter.new.Goals as goal

pub invariant_of-result : goal.invariant_of-result
invariant_of-result c = record { holds = split-none _ c.new.ensures; title = λ e. cc; room = search rules; short = search rules }

pub returns-clause-tail : goal.returns-clause-tail
returns-clause-tail c = split-none _ c.new.ensures
