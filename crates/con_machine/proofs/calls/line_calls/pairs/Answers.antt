use Rattle.std.proofs.Common.{rules}
use Rattle.con_alias.specs.Aliases.{entries_in}
use Rattle.con_machine.proofs.Listing.{pairs_more}
use Rattle.con_machine.proofs.calls.line_calls.pairs.Goals as goal

pub loop-k-preserved : goal.loop-k-preserved
loop-k-preserved c = (
  pairs_more (entries_in c.args.aliases.now.programs c.args.program.now) c.loop-k.room.items c.push_reserved.new.self.items c.loop-k.k c.at-one.result.source.now c.at-one.result.target.now
      (search rules) (c.at-one.ensures.source _) (c.at-one.ensures.target _) (search rules) (search rules),
  search rules,
  search rules,
)
