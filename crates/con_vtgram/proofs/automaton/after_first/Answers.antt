use Rattle.std.proofs.Common.{[], ◌∷◌, sym, refl}
use Rattle.con_vtgram.proofs.StepLemmas.{first_goes_on, first_ends, first_breaks, follows_first, either}
use Rattle.con_vtgram.proofs.automaton.after_first.Goals as goal

pub returns-then-is_intermediate-clause-gives : goal.returns-then-is_intermediate-clause-gives
returns-then-is_intermediate-clause-gives c = λ first single inter h. first_goes_on _ first c.args.unit h.units (either _ (sym c.if-is_intermediate.ensures)) (first, c.args.unit ∷ [], refl, h, follows_first _ c.args.unit single (sym c.if-is_intermediate.ensures))

pub returns-then-ends_control-clause-gives : goal.returns-then-ends_control-clause-gives
returns-then-ends_control-clause-gives c = λ first single inter h. first_ends _ first c.args.unit h.units c.requires (sym c.if-is_intermediate.ensures) (sym c.if-ends_control.ensures) (c.end.ensures.gives first [] h single inter)

pub returns-else-ends_control-clause-gives : goal.returns-else-ends_control-clause-gives
returns-else-ends_control-clause-gives c = λ first single inter h. first_breaks _ _ first c.args.unit h.units c.requires (sym c.if-is_intermediate.ensures) (sym c.if-ends_control.ensures) (c.begin.ensures.gives _)
