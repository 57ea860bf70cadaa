use Rattle.std.proofs.Common.{sym, ◌∙◌}
use Rattle.std.proofs.lemmas.List.{length-map}
use Rattle.con_actors.proofs.stage.begun.Goals as goal

pub returns-clause-fresh : goal.returns-clause-fresh
returns-clause-fresh g c = c.in_ok-seats-2.ensures.fresh _ (length-map _ _ ∙ sym c.in_ok-seats.ensures.count) c.in_ok-seats.ensures.fresh
