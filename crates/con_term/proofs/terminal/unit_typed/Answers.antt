-- An item, or none.
use Rattle.std.proofs.Common.{[], refl}
use Rattle.con_term.specs.Inside.{parts}
use Rattle.con_term.proofs.PlayLemmas.{unit_any}
use Rattle.con_term.proofs.terminal.unit_typed.Goals as goal

pub returns-in-Nothing : goal.returns-in-Nothing
returns-in-Nothing c = λ b. unit_any (parts b c.args.page.now c.args.units.now) c.args.unit [] _ _ (rw c.in-Nothing.is at c.advance-found.ensures.items) c.advance-found.ensures.tail refl

pub returns-in_default : goal.returns-in_default
returns-in_default c = λ b. unit_any (parts b c.args.page.now c.args.units.now) c.args.unit _ _ _ c.advance-found.ensures.items c.advance-found.ensures.tail (rw c.sequence.ensures at c.apply.ensures)
