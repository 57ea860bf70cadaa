use Rattle.std.proofs.Common.{◌≡◌, ◌≤◌, length, take}
use Rattle.con_procs.specs.Procs.{programs_of}
use Rattle.con_procs.proofs.procs.rank.Given as goal

abbrev pub invariant-loop-i : goal.invariant-loop-i
invariant-loop-i l = record { count : l.at ≡ length (programs_of (take l.i l.procs)); few : l.at ≤ l.i }
