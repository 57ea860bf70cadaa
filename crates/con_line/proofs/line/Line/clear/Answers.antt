use Rattle.std.proofs.Common.{ap, ◌∙◌, List, ℕ, arith}
use Rattle.con_units.specs.Words.Units.{first_difference}
use Rattle.con_line.proofs.Differences.{edit_is, first_difference-empty}
use Rattle.con_line.proofs.line.Line.clear.Goals as goal

pub returns-clause-edit : goal.returns-clause-edit
returns-clause-edit c = rw (← c.self.view_is) (
    edit_is c.self.inside.units.items c.clear.new.self.items 0 c.len-before.result
    (ap (λ (l : List ℕ). first_difference c.self.inside.units.items l) c.clear.ensures.items ∙ first_difference-empty c.self.inside.units.items)
    (omega arith))
