use Rattle.std.proofs.Common.{List, rules, ap}
use Rattle.std.specs.Prelude.{not}
use Rattle.std.proofs.lemmas.Fn.{filter_same}
use Rattle.con_machine.specs.Words.State.{is_rest_by}
use Rattle.con_machine.specs.declared.reads.rest.Rest.{Rest}
use Rattle.con_machine.proofs.reads.rests.Rests.forget_all.Goals as goal

pub returns : goal.returns
returns c =
    let left = filter_same _ (λ (r : Rest). not (is_rest_by c.args.process r)) _ (λ x b q e. (search rules, search rules)) _ _ c.retain.ensures.filtered in
    rw (← c.self.view_is) (ap (λ (list : List Rest). record { list = list; spare = c.self.inside.spare }) left)
