use Rattle.con_book.specs.Laws.{own-append, after-append, is_legal-append}
use Rattle.con_book.proofs.laws.histories_are_joined.Goals as goal

pub returns-clause-own : goal.returns-clause-own
returns-clause-own g c = λ a xs ys. own-append a xs ys

pub returns-clause-after : goal.returns-clause-after
returns-clause-after g c = λ s xs ys. after-append g.M.Machine.next s xs ys

pub returns-clause-legal : goal.returns-clause-legal
returns-clause-legal g c = λ s xs ys. is_legal-append g.M.Machine.next g.M.Machine.is_ready s xs ys
