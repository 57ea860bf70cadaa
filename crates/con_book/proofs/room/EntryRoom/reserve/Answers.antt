use Rattle.std.proofs.Common.{rules}
use Rattle.con_book.proofs.room.EntryRoom.reserve.Goals as goal

pub returns-clause-reserved : goal.returns-clause-reserved
returns-clause-reserved g c = search rules
