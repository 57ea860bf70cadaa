use Rattle.con_grid.proofs.PartLemmas.{parts_follow_rows}
use Rattle.con_grid.proofs.grid.is_untouched_in_parts.Goals as goal

pub returns : goal.returns
returns c = parts_follow_rows
