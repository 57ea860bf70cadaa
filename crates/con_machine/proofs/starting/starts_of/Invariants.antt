use Rattle.std.proofs.Common.{◌≡◌, ◌≤◌, ◌++◌, drop, length, vec_len, vec_capacity}
use Rattle.con_machine.specs.State.{starts_of}
use Rattle.con_machine.proofs.starting.starts_of.Given as goal

abbrev pub invariant-loop-i : goal.invariant-loop-i
invariant-loop-i l = (l.starts.items ++ starts_of (drop l.i l.scripts) (drop l.i l.racks) ≡ starts_of l.scripts l.racks) × (vec_len l.starts ≡ l.i) × (length l.scripts ≤ vec_capacity l.starts)
