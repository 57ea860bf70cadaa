use Rattle.con_laws.specs.DueLaws.{ask_is_terminals, asked_after}
use Rattle.con_laws.proofs.histories.a_history_tells_what_is_asked_for.Goals as goal

pub returns-clause-terminal : goal.returns-clause-terminal
returns-clause-terminal c = ask_is_terminals

pub returns-clause-asked : goal.returns-clause-asked
returns-clause-asked c = asked_after
