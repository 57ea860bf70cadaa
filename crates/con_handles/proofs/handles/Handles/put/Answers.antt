use Rattle.std.proofs.Common.{ap, ◌∙◌}
use Rattle.con_handles.specs.Words.Handles.{Table}
use Rattle.con_handles.specs.Places.{handle_of}
use Rattle.con_handles.specs.Tables.{tally, on}
use Rattle.con_handles.specs.CountLaws.{tally_entered}
use Rattle.con_handles.proofs.handles.Handles.put.Goals as goal

pub returns-clause-counted : goal.returns-clause-counted
returns-clause-counted c = λ t. ap (λ (x : Table). tally (on t) x.open_ones) c.fill.ensures.state ∙ tally_entered (on t) (handle_of c.args.process c.args.number c.args.held) c.args.self.now.open_ones
