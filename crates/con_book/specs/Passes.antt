-- What a clause reads of a book and of a pass to it.
use Rattle.std.specs.Prelude.{◌≡◌, ℕ, List}
use Rattle.atomic_table.specs.Seated.{TableId}
use Rattle.con_book.specs.Turn.{IsSame}
use Rattle.con_book.specs.declared.machine.Machine.{Ghosts}
use Rattle.con_book.specs.declared.book.Book.{Book}
use Rattle.con_book.specs.declared.pass.Pass.{Pass}
use Rattle.con_book.specs.declared.history.Logged.{Logged}
use Rattle.con_book.specs.declared.view.PassView.{PassView}

-- what tells books apart
abbrev pub BookId : Type 0
BookId = TableId

module _ {M S E R A Room : Type 0} where
  -- which book it is
  abbrev pub book_id : Book M S E R A Room → BookId
  book_id book = book.table.shared.table_id

module _ {M S E R A Room : Type 0} {g : Ghosts M S E R A Room} where
  -- which book it belongs to
  abbrev pub pass_id : Pass M S E R A Room g → BookId
  pass_id pass = pass.seat.table_id

  -- what it knows
  abbrev pub view_of : Pass M S E R A Room g → PassView S E
  view_of pass = pass.seat.me.0

  -- whose pass it is
  abbrev pub actor_of : Pass M S E R A Room g → ℕ
  actor_of pass = (view_of pass).actor

  -- the entries that it knows, oldest first
  abbrev pub seen : Pass M S E R A Room g → List (Logged E)
  seen pass = (view_of pass).seen

  -- its own events, oldest first
  abbrev pub mine : Pass M S E R A Room g → List E
  mine pass = (view_of pass).mine

  -- the actors that the opening pass gave one, the last one first
  abbrev pub made : Pass M S E R A Room g → List ℕ
  made pass = (view_of pass).made

  -- the same pass of the same book, which may have seen more
  abbrev pub IsSamePass : Pass M S E R A Room g → Pass M S E R A Room g → Type 0
  IsSamePass old new = (pass_id new ≡ pass_id old) × IsSame (view_of old) (view_of new)
