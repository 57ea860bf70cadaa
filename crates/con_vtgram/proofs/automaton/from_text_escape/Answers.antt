-- The string ends, or the escape begins the next sequence.
use Rattle.con_vtgram.proofs.StringLemmas.{escape_ends, escape_breaks}
use Rattle.con_vtgram.proofs.TitleLemmas.{quiet_titles, titles_ended}
use Rattle.con_vtgram.proofs.automaton.from_text_escape.Goals as goal

pub returns-then-unit-eq92-clause-gives : goal.returns-then-unit-eq92-clause-gives
returns-then-unit-eq92-clause-gives c = λ s o body h. escape_ends _ o body c.args.unit h.opens h.units c.if-unit-eq92.true (c.string_found.ensures.gives o body c.args.unit s h.is_named)

pub returns-else-unit-eq92-clause-gives : goal.returns-else-unit-eq92-clause-gives
returns-else-unit-eq92-clause-gives c = λ s o body h. escape_breaks _ _ o body c.args.unit h.opens h.units c.if-unit-eq92.false (c.from_escape.ensures.gives s)

pub returns-then-unit-eq92-clause-title : goal.returns-then-unit-eq92-clause-title
returns-then-unit-eq92-clause-title c = λ s o body kept h keeps. titles_ended c.args.name _ o body c.args.unit kept h keeps (c.string_found.ensures.title c.args.unit s)

pub returns-else-unit-eq92-clause-title : goal.returns-else-unit-eq92-clause-title
returns-else-unit-eq92-clause-title c = λ s o body kept h keeps. quiet_titles _ _ _ _ _ (c.from_escape.ensures.quiet s)
