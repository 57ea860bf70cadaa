-- Two units.
use Rattle.con_audit.specs.Playing.{partial_of}
use Rattle.con_audit.proofs.PlayLemmas.{pair}
use Rattle.con_audit.proofs.playing.learn_character.Goals as goal

pub returns-else-code-lt65536-clause-typed : goal.returns-else-code-lt65536-clause-typed
returns-else-code-lt65536-clause-typed c = λ b. pair (partial_of b c.args.page.now c.args.units.now c.args.marks.now c.args.flags) _ _ c.args.character c.if-code-lt65536.false (c.learn_unit-first.ensures.typed b) (c.learn_unit-else-code-lt65536.ensures.typed b)
