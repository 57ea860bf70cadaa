use Rattle.std.proofs.Common.{[], ◌∷◌, ◌++◌, sym, refl}
use Rattle.con_vtgram.proofs.StepLemmas.{second_goes_on, second_ends, second_breaks, follows_longer}
use Rattle.con_vtgram.proofs.automaton.from_second.Goals as goal

pub returns-then-is_intermediate-clause-gives : goal.returns-then-is_intermediate-clause-gives
returns-then-is_intermediate-clause-gives c = λ first is h k. second_goes_on _ first is c.args.unit h.units k.units k.some (sym c.if-is_intermediate.ensures) (first, is ++ c.args.unit ∷ [], refl, h, follows_longer c.args.sequence.now.single _ is c.args.unit k (sym c.if-is_intermediate.ensures))

pub returns-then-ends_control-clause-gives : goal.returns-then-ends_control-clause-gives
returns-then-ends_control-clause-gives c = λ first is h k. second_ends _ first is c.args.unit h.units k.units k.some (sym c.if-is_intermediate.ensures) (sym c.if-ends_control.ensures) (c.end.ensures.gives first is h k.few k.first)

pub returns-else-ends_control-clause-gives : goal.returns-else-ends_control-clause-gives
returns-else-ends_control-clause-gives c = λ first is h k. second_breaks _ _ first is c.args.unit h.units k.units k.some (sym c.if-is_intermediate.ensures) (sym c.if-ends_control.ensures) (c.begin.ensures.gives _)
