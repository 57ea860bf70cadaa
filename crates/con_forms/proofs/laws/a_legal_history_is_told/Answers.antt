use Rattle.con_forms.proofs.Lines.{all_are_told, each_is_told, histories_fit, said_again}
use Rattle.con_forms.proofs.laws.a_legal_history_is_told.Goals as goal

pub returns-clause-fits : goal.returns-clause-fits
returns-clause-fits c = histories_fit

pub returns-clause-all : goal.returns-clause-all
returns-clause-all c = all_are_told

pub returns-clause-each : goal.returns-clause-each
returns-clause-each c = each_is_told

pub returns-clause-said : goal.returns-clause-said
returns-clause-said c = said_again
