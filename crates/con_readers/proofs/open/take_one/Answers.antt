-- The echo that a press answers is the one that is told.
use Rattle.std.proofs.Common.{◌∙◌, sym}
use Rattle.con_readers.proofs.OneRecord.{line-echo}
use Rattle.con_readers.proofs.open.take_one.Goals as goal

pub returns-in-Going-clause-step : goal.returns-in-Going-clause-step
returns-in-Going-clause-step c =
    line-echo c.args.process c.args.aliases.now.programs c.args.line c.args.one c.args.histories.now c.in-Going.echo (sym c.in-Going.is ∙ c.press.ensures.progress)
