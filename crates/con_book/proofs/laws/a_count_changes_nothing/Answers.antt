use Rattle.con_book.specs.Laws.{after-counting, is_legal-counting}
use Rattle.con_book.proofs.laws.a_count_changes_nothing.Goals as goal

pub returns-clause-after : goal.returns-clause-after
returns-clause-after g c = λ s xs. after-counting g.M.Machine.next g.M.Machine.is_ready s xs

pub returns-clause-legal : goal.returns-clause-legal
returns-clause-legal g c = λ s xs. is_legal-counting g.M.Machine.next g.M.Machine.is_ready s xs
