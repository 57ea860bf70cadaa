use Rattle.std.proofs.Common.{ap, ◌∙◌, ◌+◌, cond}
use Rattle.con_handles.specs.Words.Handles.{Table}
use Rattle.con_handles.specs.Tables.{tally, on}
use Rattle.con_handles.specs.CountLaws.{tally_without}
use Rattle.con_handles.proofs.handles.Handles.remove.Goals as goal

pub returns-clause-counted : goal.returns-clause-counted
returns-clause-counted c = λ t.
    ap (λ (x : Table). cond (t c.args.one.object) 1 0 + tally (on t) x.open_ones) c.empty.ensures.state
    ∙ tally_without (on t) c.args.self.now.open_ones c.args.process c.args.number c.args.one c.requires.table c.requires.found
