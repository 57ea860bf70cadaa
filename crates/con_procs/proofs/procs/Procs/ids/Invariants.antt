-- The numbers of the first ones are there.
use Rattle.std.proofs.Common.{◌≡◌, ◌≤◌, ◌+◌, ◌++◌, drop, length, vec_len, vec_capacity}
use Rattle.con_procs.specs.Procs.{ids_from, ids_of}
use Rattle.con_procs.proofs.procs.Procs.ids.Given as goal

abbrev pub invariant-loop-i : goal.invariant-loop-i
invariant-loop-i l = record {
  ids : l.out.items ++ ids_from (l.i + 1) (drop l.i l.self-inside.procs.items) ≡ ids_of l.self-inside.procs.items;
  room : vec_capacity l.out ≡ vec_capacity l.fn.out;
  len : vec_len l.out ≤ l.i;
  end : l.i-end ≡ length l.self-inside.procs.items;
}
