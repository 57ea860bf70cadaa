use Rattle.con_mirror.specs.PartLaws.{part_cell, part_is_whole}
use Rattle.con_mirror.proofs.laws.is_seen_by_cells.Goals as goal

pub returns-clause-whole : goal.returns-clause-whole
returns-clause-whole c = part_is_whole

pub returns-clause-cells : goal.returns-clause-cells
returns-clause-cells c = part_cell
