-- So many are there.
use Rattle.std.proofs.Common.{◌≡◌, ◌≤◌, replicate, vec_capacity, vec_len}
use Rattle.con_history.proofs.histories.empty_lines.Given as goal

abbrev pub invariant-loop : goal.invariant-loop
invariant-loop l = record { items : l.buffers.items ≡ replicate l.counter l.lines; len : vec_len l.buffers ≡ l.counter; room : l.n ≤ vec_capacity l.buffers }
