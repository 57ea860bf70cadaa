use Rattle.std.proofs.Common.{ap, ◌∙◌}
use Rattle.con_lines.specs.Ending.{status_of}
use Rattle.con_lines.specs.Words.Ending.{ending_of}
use Rattle.con_ending.specs.Laws.{reported_by, status_after}
use Rattle.con_ending.proofs.ending.close.Goals as goal

pub returns-clause-tells : goal.returns-clause-tells
returns-clause-tells g c =
    reported_by c.write_end-written.result _ (status_of (ending_of c.args.last.now)) _ _ _ _
    (c.status_after.ensures ∙ ap (status_after c.write_end-written.result) c.status_told.ensures)
    c.write_end-written.ensures.whole c.write_end-written.ensures.part c.write_end-written.ensures.failed
