-- The first ones are told.
use Rattle.std.proofs.Common.{◌≡◌, ◌≤◌, vec_len, take, drop, ◌++◌, length}
use Rattle.std.specs.Prelude.{map}
use Rattle.con_procs.specs.Procs.{programs_of}
use Rattle.con_procs.specs.Words.Procs.{told}
use Rattle.con_procs.proofs.procs.Procs.signal.Given as goal

abbrev pub invariant-loop-i : goal.invariant-loop-i
invariant-loop-i l = record { told : l.self-inside.procs.items ≡ map (told l.event l.group) (take l.i l.fn.self) ++ drop l.i l.fn.self; end : l.i-end ≡ length l.fn.self; programs : l.self-inside.programs.items ≡ programs_of l.fn.self; few : vec_len l.self-inside.procs ≤ 255 }
