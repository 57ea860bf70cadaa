use Rattle.std.proofs.Common.{◌≡◌, ◌==◌, true, [], ◌∷◌, ◌∙◌, sym, refl}
use Rattle.con_vtgram.specs.State.{parameters_of}
use Rattle.con_vtgram.proofs.StepLemmas.{first_goes_on, reads_question, reads_one, reads_none, append_some, either_first, no_question}
use Rattle.con_vtgram.proofs.automaton.from_open.Goals as goal

pub returns-then-unit-eq63-clause-gives : goal.returns-then-unit-eq63-clause-gives
returns-then-unit-eq63-clause-gives c = let e : (c.args.unit == 0x3F) ≡ true = rw c.if-unit-eq63.true refl in
    rw c.if-unit-eq63.true (first_goes_on _ [] 0x3F refl refl (0x3F ∷ [], refl, append_some [] 0x3F, reads_question (parameters_of c.begin.new.self) (c.begin.ensures.private ∙ e) c.begin.ensures.counts, c.begin.ensures.single, c.begin.ensures.inter))

pub returns-then-is_parameter_unit-clause-gives : goal.returns-then-is_parameter_unit-clause-gives
returns-then-is_parameter_unit-clause-gives c = let on = sym c.if-is_parameter_unit.ensures in let ne = no_question c.args.unit c.if-unit-eq63.false in
    first_goes_on _ [] c.args.unit refl (either_first _ _ on) (c.args.unit ∷ [], refl, append_some [] c.args.unit, reads_one (parameters_of c.push.new.self) c.args.unit ne on (c.push.ensures.private ∙ c.begin.ensures.private ∙ ne) (c.push.ensures.counts [] c.begin.ensures.counts), c.push.ensures.single ∙ c.begin.ensures.single, c.push.ensures.inter ∙ c.begin.ensures.inter)

pub returns-else-is_parameter_unit-clause-gives : goal.returns-else-is_parameter_unit-clause-gives
returns-else-is_parameter_unit-clause-gives c = let ne = no_question c.args.unit c.if-unit-eq63.false in
    c.after_first.ensures.gives [] c.begin.ensures.single c.begin.ensures.inter (reads_none (parameters_of c.begin.new.self) (c.begin.ensures.private ∙ ne) c.begin.ensures.counts)
