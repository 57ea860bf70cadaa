-- No text has no number.
use Rattle.std.proofs.Common.{refl}
use Rattle.con_vtgram.specs.Numbers.{parameters}
use Rattle.con_vtgram.specs.Text.{sixteen}
use Rattle.con_vtgram.proofs.automaton.Sequence.begin.Goals as goal

pub returns-clause-counts : goal.returns-clause-counts
unfolding parameters sixteen
returns-clause-counts c = record { plain = refl; count = λ _. refl; values = λ _. refl }
