use Rattle.std.proofs.Common.{◌≡◌, ◌+◌, ◌≤◌, ◌++◌, map, vec_len, vec_capacity}
use Rattle.std.specs.Vec.Iter.{into_iter_items, into_iter_len}
use Rattle.con_threads.specs.Ledger.{entry_by}
use Rattle.con_threads.proofs.listing.listed_in.Given as goal

abbrev pub invariant-loop-logged : goal.invariant-loop-logged
invariant-loop-logged l = record {
  listed : l.entries.items ++ map (λ x. entry_by x.actor x.event) (into_iter_items l.logged-iterator) ≡ map (λ x. entry_by x.actor x.event) l.fn.log.items;
  room : vec_len l.entries + into_iter_len l.logged-iterator ≤ vec_capacity l.entries;
}
