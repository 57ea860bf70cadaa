-- Intermediates, and units that no escape sequence has.
use Rattle.std.proofs.Common.{◌≡◌, ◌==◌, false, true, sym, refl, arith}
use Rattle.std.proofs.lemmas.Bool.Decides.{nat_tests}
use Rattle.con_vtgram.proofs.StepLemmas.{escape_nested, escape_broken}
use Rattle.con_vtgram.proofs.automaton.from_escape.Goals as goal

pub returns-then-unit-eq40-clause-gives : goal.returns-then-unit-eq40-clause-gives
returns-then-unit-eq40-clause-gives c = λ s. rw c.if-unit-eq40.true (escape_nested 0x28 true refl refl)

pub returns-then-is_intermediate-clause-gives : goal.returns-then-is_intermediate-clause-gives
returns-then-is_intermediate-clause-gives c = λ s. let e : false ≡ (c.args.unit == 0x28) = grind (arith, nat_tests) in escape_nested c.args.unit false (sym c.if-is_intermediate.ensures) e

pub returns-else-ends_escape-clause-gives : goal.returns-else-ends_escape-clause-gives
returns-else-ends_escape-clause-gives c = λ s. escape_broken _ _ c.args.unit c.if-unit-eq91.false (sym c.if-is_intermediate.ensures) (sym c.if-opens_string.ensures) (sym c.if-ends_escape.ensures) (c.begin.ensures.gives s)
