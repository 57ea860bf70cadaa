use Rattle.std.proofs.Common.{◌≡◌, ◌≤◌, ◌++◌, length, take, drop}
use Rattle.con_history.specs.Parts.{without}
use Rattle.con_history.proofs.history.remove_same.Given as goal

abbrev pub invariant-loop : goal.invariant-loop
invariant-loop l = (l.lines.items ≡ drop l.counter l.initial.lines.items ++ without l.line (take l.counter l.initial.lines.items)) × (l.lines.capacity ≡ l.initial.lines.capacity) × (l.end ≡ length l.initial.lines.items) × (l.end ≤ l.initial.lines.capacity)
