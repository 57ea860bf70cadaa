use Rattle.std.proofs.Common.{sym, ap, position, ◌∙◌}
use Rattle.std.specs.Prelude.{◌==◌}
use Rattle.con_actors.proofs.ChainLaws.{absent_hands}
use Rattle.con_actors.proofs.hands.Hands.remove.Goals as goal

pub returns-in_default-clause-removed : goal.returns-in_default-clause-removed
returns-in_default-clause-removed g c = λ hs doubtful once are.
    absent_hands hs doubtful _ _ c.args.place
    (ap (position (λ y. y == c.args.place)) (sym c.as_slice.ensures.value) ∙ (sym c.index_of.ensures ∙ c.in_default.is)) once are
