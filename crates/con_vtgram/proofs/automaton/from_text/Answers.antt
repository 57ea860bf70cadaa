-- The units of a string.
use Rattle.std.proofs.Common.{[], ◌∷◌, ◌++◌, sym, refl}
use Rattle.con_vtgram.specs.Text.{string_text}
use Rattle.con_vtgram.proofs.StepLemmas.{either_first}
use Rattle.con_vtgram.proofs.StringLemmas.{text_goes_on, text_ends, text_cancelled, stays_is, inside_dropped, inside_named}
use Rattle.con_vtgram.proofs.TitleLemmas.{quiet_titles, titles_bell, titles_escape, titles_dropped, titles_named}
use Rattle.con_vtgram.proofs.automaton.from_text.Goals as goal

pub returns-then-unit-eq7-clause-gives : goal.returns-then-unit-eq7-clause-gives
returns-then-unit-eq7-clause-gives c = λ s o body h. text_ends _ o body c.args.unit h.opens h.units c.if-unit-eq7.true (c.string_found.ensures.gives o body c.args.unit s h.is_named)

pub returns-then-unit-eq27-clause-gives : goal.returns-then-unit-eq27-clause-gives
returns-then-unit-eq27-clause-gives c = λ s o body h. rw c.if-unit-eq27.true (text_goes_on _ o body 0x1B h.opens h.units refl (o, body, refl, h))

pub returns-then-cancels-clause-gives : goal.returns-then-cancels-clause-gives
returns-then-cancels-clause-gives c = λ s o body h. text_cancelled _ _ o body c.args.unit h.opens h.units (sym c.if-cancels.ensures) c.if-unit-eq7.false c.if-unit-eq27.false (c.begin.ensures.gives s)

pub returns-then-is_control-clause-gives : goal.returns-then-is_control-clause-gives
returns-then-is_control-clause-gives c = λ s o body h. let on = stays_is c.args.unit c.if-unit-eq7.false c.if-unit-eq27.false (sym c.if-cancels.ensures) in
    text_goes_on _ o body c.args.unit h.opens h.units (either_first _ _ on) (o, body ++ c.args.unit ∷ [], refl, inside_dropped c.args.name o body c.args.unit h on (sym c.if-is_control.ensures))

pub returns-else-is_control-clause-gives : goal.returns-else-is_control-clause-gives
returns-else-is_control-clause-gives c = λ s o body h. let on = stays_is c.args.unit c.if-unit-eq7.false c.if-unit-eq27.false (sym c.if-cancels.ensures) in
    text_goes_on _ o body c.args.unit h.opens h.units (either_first _ _ on) (o, body ++ c.args.unit ∷ [], refl, inside_named c.args.name c.named.result o body c.args.unit h on (sym c.if-is_control.ensures) (c.named.ensures o (string_text body) h.is_named))

pub returns-then-unit-eq7-clause-title : goal.returns-then-unit-eq7-clause-title
returns-then-unit-eq7-clause-title c = λ s o body h kept. titles_bell c.args.name _ o body c.args.unit _ h kept (c.string_found.ensures.title c.args.unit s) c.if-unit-eq7.true

pub returns-then-unit-eq27-clause-title : goal.returns-then-unit-eq27-clause-title
returns-then-unit-eq27-clause-title c = λ s o body h kept. rw c.if-unit-eq27.true (titles_escape c.args.name o body _ h kept)

pub returns-then-cancels-clause-title : goal.returns-then-cancels-clause-title
returns-then-cancels-clause-title c = λ s o body h kept. quiet_titles _ _ _ _ _ (c.begin.ensures.quiet s)

pub returns-then-is_control-clause-title : goal.returns-then-is_control-clause-title
returns-then-is_control-clause-title c = λ s o body h kept. let on = stays_is c.args.unit c.if-unit-eq7.false c.if-unit-eq27.false (sym c.if-cancels.ensures) in
    titles_dropped c.args.name o body c.args.unit _ h kept on (sym c.if-is_control.ensures)

pub returns-else-is_control-clause-title : goal.returns-else-is_control-clause-title
returns-else-is_control-clause-title c = λ s o body h kept. let on = stays_is c.args.unit c.if-unit-eq7.false c.if-unit-eq27.false (sym c.if-cancels.ensures) in
    titles_named c.named.result o body c.args.unit _ h.opens h.units on (sym c.if-is_control.ensures) (c.named.ensures o (string_text body) h.is_named) (c.keep_title.ensures.title o (string_text body) h.is_named kept)
