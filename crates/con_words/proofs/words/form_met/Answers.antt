use Rattle.std.proofs.Common.{◌∙◌}
use Rattle.con_words.proofs.Entered.{met_is, none_met}
use Rattle.con_words.proofs.words.form_met.Goals as goal

pub returns-in-Some-clause-form : goal.returns-in-Some-clause-form
returns-in-Some-clause-form c = c.form_in.ensures.form ∙ met_is _ _ _ c.in-Some.ensures.name c.in-Some.ensures.rows

pub returns-in-None-clause-form : goal.returns-in-None-clause-form
returns-in-None-clause-form c = none_met _ c.in-None.ensures.rows
