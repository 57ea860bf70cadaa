use Rattle.std.proofs.Common.{◌≡◌, ℕ, ◌%◌, ◌^◌, []}
use Rattle.con_book.specs.Lock.{staged}
use Rattle.con_book.specs.declared.view.Stage.TheVariants.{Waiting}
use Rattle.con_book.proofs.book.Book.enter.Given as goal

abbrev pub invariant-loop : goal.invariant-loop
invariant-loop g l = (l.seat.table_id ≡ l.fn.seat.table_id) × ((t : ℕ) × (l.seat.me ≡ (staged l.fn.seat.me.0 (Waiting t), [])) × (t % 2 ^ 64 ≡ l.ticket))
