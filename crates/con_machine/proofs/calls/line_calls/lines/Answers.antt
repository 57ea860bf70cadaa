use Rattle.std.proofs.Common.{rules}
use Rattle.con_history.specs.Histories.{lines_of}
use Rattle.con_machine.proofs.Listing.{told_more}
use Rattle.con_machine.proofs.calls.line_calls.lines.Goals as goal

pub loop-k-preserved : goal.loop-k-preserved
loop-k-preserved c = (
  told_more (lines_of c.args.histories.now c.args.program.now) c.loop-k.room.items c.push_reserved.new.self.items c.loop-k.k c.in_ok-copied.field-0 (search rules) (search rules) (search rules) (search rules),
  search rules,
  search rules,
)
