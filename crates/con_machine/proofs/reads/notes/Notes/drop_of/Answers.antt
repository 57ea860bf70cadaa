use Rattle.std.proofs.Common.{List, rules, ap}
use Rattle.std.specs.Prelude.{not}
use Rattle.std.proofs.lemmas.Fn.{filter_same}
use Rattle.con_machine.specs.Words.State.{is_noted}
use Rattle.con_machine.specs.declared.reads.noted.Noted.{Noted}
use Rattle.con_machine.proofs.reads.notes.Notes.drop_of.Goals as goal

pub returns : goal.returns
returns c =
    let left = filter_same _ (λ (n : Noted). not (is_noted c.args.process n)) _ (λ x b q e. (search rules, search rules)) _ _ c.retain.ensures.filtered in
    rw (← c.self.view_is) (ap (λ (list : List Noted). record { list = list; spare = c.self.inside.spare }) left)
