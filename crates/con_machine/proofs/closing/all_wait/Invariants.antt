use Rattle.std.proofs.Common.{◌≡◌, ◌+◌, drop}
use Rattle.con_procs.specs.Procs.{ids_of, ids_from}
use Rattle.con_machine.specs.Closing.{all_wait}
use Rattle.con_machine.proofs.closing.all_wait.Given as goal

abbrev pub invariant-loop-i : goal.invariant-loop-i
invariant-loop-i l = all_wait l.readers.reads (ids_of l.procs) ≡ all_wait l.readers.reads (ids_from (l.i + 1) (drop l.i l.procs))
