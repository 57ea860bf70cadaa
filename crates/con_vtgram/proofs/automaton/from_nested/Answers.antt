use Rattle.std.proofs.Common.{sym}
use Rattle.con_vtgram.proofs.StepLemmas.{nested_goes_on, nested_ends, nested_breaks, nested_longer, nested_item, nested_none}
use Rattle.con_vtgram.proofs.automaton.from_nested.Goals as goal

pub returns-then-is_intermediate-clause-gives : goal.returns-then-is_intermediate-clause-gives
returns-then-is_intermediate-clause-gives c = λ s is h some paren. let on = sym c.if-is_intermediate.ensures in nested_goes_on _ is c.args.unit h some on (nested_longer is c.args.unit h some on)

pub returns-then-paren-clause-gives : goal.returns-then-paren-clause-gives
returns-then-paren-clause-gives c = λ s is h some paren. nested_ends _ is c.args.unit h some (sym c.if-is_intermediate.ensures) (sym c.if-ends_escape.ensures) (nested_item is c.args.unit _ c.if-paren.true paren)

pub returns-else-paren-clause-gives : goal.returns-else-paren-clause-gives
returns-else-paren-clause-gives c = λ s is h some paren. nested_ends _ is c.args.unit h some (sym c.if-is_intermediate.ensures) (sym c.if-ends_escape.ensures) (nested_none is c.args.unit _ c.if-paren.false paren)

pub returns-else-ends_escape-clause-gives : goal.returns-else-ends_escape-clause-gives
returns-else-ends_escape-clause-gives c = λ s is h some paren. nested_breaks _ _ is c.args.unit h some (sym c.if-is_intermediate.ensures) (sym c.if-ends_escape.ensures) (c.begin.ensures.gives s)
