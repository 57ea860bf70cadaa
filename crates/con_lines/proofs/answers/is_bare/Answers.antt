use Rattle.std.proofs.Common.{◌∙◌}
use Rattle.con_lines.proofs.Shapes.{none_there}
use Rattle.con_lines.proofs.answers.is_bare.Goals as goal

pub returns : goal.returns
returns c = c.is_empty.ensures ∙ none_there c.args.items.now
