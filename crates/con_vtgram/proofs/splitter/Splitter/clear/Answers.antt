-- No units leave no tail.
use Rattle.std.proofs.Common.{ap}
use Rattle.con_vtgram.specs.Reads.{Reader}
use Rattle.con_vtgram.proofs.RunLemmas.{split-none, reader_is}
use Rattle.con_vtgram.proofs.splitter.Splitter.clear.Goals as goal

pub invariant_of-self : goal.invariant_of-self
invariant_of-self c = record { holds = split-none _ c.new.ensures; title = λ e. cc; room = c.self.invariant.room; short = c.self.invariant.short }

pub returns : goal.returns
returns c = reader_is _ _ _ _ _ c.new.ensures (ap (λ (r : Reader). r.title) c.self.view_is) (ap (λ (r : Reader). r.sequence) c.self.view_is)
