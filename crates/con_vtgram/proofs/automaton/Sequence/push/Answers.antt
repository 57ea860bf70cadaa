-- Each of the units adds to the parameters as the lemmas say.
use Rattle.std.proofs.Common.{◌-◌, refl, arith, rules}
use Rattle.con_vtgram.specs.State.{parameters_of}
use Rattle.con_vtgram.proofs.CountLemmas.{semicolon, digit, digit_past_all}
use Rattle.con_vtgram.proofs.automaton.Sequence.push.Goals as goal

pub returns-then-unit-eq59-clause-counts : goal.returns-then-unit-eq59-clause-counts
returns-then-unit-eq59-clause-counts c = λ body h. rw c.if-unit-eq59.true (semicolon (parameters_of c.args.self.now) _ body h refl (omega arith) refl)

pub returns-else-count-le16-clause-counts : goal.returns-else-count-le16-clause-counts
returns-else-count-le16-clause-counts c = λ body h. digit_past_all (parameters_of c.args.self.now) _ body c.args.unit (omega arith) (omega arith) h (omega arith) refl (omega arith) refl

pub returns-then-count-le16-clause-counts : goal.returns-then-count-le16-clause-counts
returns-then-count-le16-clause-counts c = λ body h. digit (parameters_of c.args.self.now) _ body c.args.unit (c.max-count.result - 1) (omega arith) (omega arith) h (omega arith) (omega arith) refl (omega arith) (search rules)
