-- Two units.
use Rattle.con_term.specs.Inside.{parts}
use Rattle.con_term.proofs.PlayLemmas.{pair}
use Rattle.con_term.proofs.terminal.character_typed.Goals as goal

pub returns-else-code-lt65536 : goal.returns-else-code-lt65536
returns-else-code-lt65536 c = λ b. pair (parts b c.args.page.now c.args.units.now) _ _ c.args.character _ _ c.surrogates-high.ensures.units (c.unit_typed-else-code-lt65536.ensures b) (c.unit_typed-else-code-lt65536-2.ensures b)
