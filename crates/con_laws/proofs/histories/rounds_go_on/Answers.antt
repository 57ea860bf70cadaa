use Rattle.con_laws.specs.RoundLaws.{turns_more, entries_more, broken_off, rounds_more, all_entries_more}
use Rattle.con_laws.proofs.histories.rounds_go_on.Goals as goal

pub returns-clause-turn : goal.returns-clause-turn
returns-clause-turn c = turns_more

pub returns-clause-entries : goal.returns-clause-entries
returns-clause-entries c = entries_more

pub returns-clause-broken : goal.returns-clause-broken
returns-clause-broken c = broken_off

pub returns-clause-round : goal.returns-clause-round
returns-clause-round c = rounds_more

pub returns-clause-all_entries : goal.returns-clause-all_entries
returns-clause-all_entries c = all_entries_more
