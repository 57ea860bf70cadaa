-- So many are moved, and a buffer is left for each of the others.
use Rattle.std.proofs.Common.{◌≡◌, ◌-◌, ◌++◌, map, take, drop, length, replicate}
use Rattle.con_history.specs.Parts.{shortened}
use Rattle.con_history.proofs.histories.move_all.Given as goal

abbrev pub invariant-loop-history : goal.invariant-loop-history
invariant-loop-history l = record {
  used : l.used ≡ map (shortened l.lines) (take l.history-index l.initial.used) ++ drop l.history-index l.initial.used;
  buffers : l.buffers.items ≡ replicate (length l.initial.used - l.history-index) l.lines;
}
