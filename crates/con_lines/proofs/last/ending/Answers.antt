use Rattle.serde_json.specs.View.{view}
use Rattle.con_lines.proofs.EndingFits.{some_ending}
use Rattle.con_lines.proofs.last.ending.Goals as goal

pub returns-clause-fits : goal.returns-clause-fits
returns-clause-fits c = some_ending c.ending_told.result (view c.args.value.now) c.ending_told.ensures.told c.ending_told.ensures.text
