use Rattle.std.proofs.Common.{◌∙◌}
use Rattle.con_script.proofs.LeftLemmas.{no_arguments}
use Rattle.con_script.proofs.cursor.CursorArguments.is_done.Goals as goal

pub returns : goal.returns
returns c = c.is_empty.ensures ∙ no_arguments c.args.self.now.items.left.now
