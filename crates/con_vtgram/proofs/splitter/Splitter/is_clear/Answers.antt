-- Between sequences there is no tail.
use Rattle.std.proofs.Common.{ap, ◌∙◌, sym, rules}
use Rattle.con_vtgram.specs.Reads.{Reader}
use Rattle.con_vtgram.proofs.splitter.Splitter.is_clear.Goals as goal

pub returns-in-Ground-clause-clear : goal.returns-in-Ground-clause-clear
returns-in-Ground-clause-clear c = λ _. sym (ap (λ (r : Reader). r.tail) c.self.view_is) ∙ (rw c.in-Ground.is at c.self.invariant.holds)

pub returns-in-Ground-clause-unfinished : goal.returns-in-Ground-clause-unfinished
returns-in-Ground-clause-unfinished c = search rules
