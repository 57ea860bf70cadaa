use Rattle.std.proofs.Common.{◌≡◌, ◌+◌, ◌≤◌, ◌++◌, map, vec_len, vec_capacity}
use Rattle.std.specs.Vec.Iter.{into_iter_items, into_iter_len}
use Rattle.con_book.proofs.room.EntryRoom.fill.Given as goal

abbrev pub invariant-loop-logged : goal.invariant-loop-logged
invariant-loop-logged g l = record {
  room : vec_len l.list + into_iter_len l.logged-iterator ≤ vec_capacity l.list;
  filled : l.list.items ++ map (λ x. g.T.OfLogged.entry_of x.actor x.event) (into_iter_items l.logged-iterator) ≡ map (λ x. g.T.OfLogged.entry_of x.actor x.event) l.fn.log.items;
}
