-- The first half.
use Rattle.std.proofs.Common.{rules}
use Rattle.con_term.proofs.BlockLemmas.{first_half}
use Rattle.con_term.proofs.block.Block.new.Goals as goal

pub returns : goal.returns
returns c = first_half c.args.count _ c.args.cell (search rules)
