use Rattle.std.proofs.Common.{rules}
use Rattle.con_book.proofs.book.Book.close.Goals as goal

pub returns : goal.returns
returns g c = search rules
