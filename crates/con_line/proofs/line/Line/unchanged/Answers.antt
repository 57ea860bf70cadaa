use Rattle.std.proofs.Common.{◌∙◌, arith}
use Rattle.con_line.proofs.Differences.{edit_is, first_difference-self}
use Rattle.con_line.proofs.line.Line.unchanged.Goals as goal

pub returns : goal.returns
returns c = rw (← c.self.view_is) (
    edit_is c.self.inside.units.items c.self.inside.units.items c.len-len.result c.len-len.result
    (first_difference-self c.self.inside.units.items ∙ omega arith) (omega arith))
