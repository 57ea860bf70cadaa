use Rattle.std.proofs.Common.{rules}
use Rattle.con_units.proofs.utf8.Utf8.feed.Goals as goal

pub returns-clause-items : goal.returns-clause-items
returns-clause-items c = search rules
