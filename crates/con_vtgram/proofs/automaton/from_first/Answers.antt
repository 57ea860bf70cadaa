use Rattle.std.proofs.Common.{[], ◌∷◌, ◌++◌, ◌∙◌, sym, refl}
use Rattle.con_vtgram.specs.State.{parameters_of}
use Rattle.con_vtgram.specs.Text.{after_question}
use Rattle.con_vtgram.proofs.StepLemmas.{first_goes_on, reads_longer, append_some, either_first}
use Rattle.con_vtgram.proofs.automaton.from_first.Goals as goal

pub returns-then-is_parameter_unit-clause-gives : goal.returns-then-is_parameter_unit-clause-gives
returns-then-is_parameter_unit-clause-gives c = λ first some single inter h. let on = sym c.if-is_parameter_unit.ensures in
    first_goes_on _ first c.args.unit h.units (either_first _ _ on) (first ++ c.args.unit ∷ [], refl, append_some first c.args.unit, reads_longer (parameters_of c.args.sequence.now) (parameters_of c.push.new.self) first c.args.unit some h on c.push.ensures.private (c.push.ensures.counts (after_question first) h.counts), c.push.ensures.single ∙ single, c.push.ensures.inter ∙ inter)
