-- So many are gone.
use Rattle.std.proofs.Common.{◌≡◌, drop, vec_capacity}
use Rattle.con_history.proofs.histories.drop_oldest.Given as goal

abbrev pub invariant-loop : goal.invariant-loop
invariant-loop l = record { items : l.used.items ≡ drop l.counter l.initial.used.items; room : vec_capacity l.used ≡ vec_capacity l.initial.used }
