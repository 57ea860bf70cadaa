use Rattle.std.proofs.Common.{◌≡◌, ◌≤◌, length, take, vec_capacity}
use Rattle.con_history.specs.Histories.{lines_of}
use Rattle.con_machine.proofs.calls.line_calls.lines.Given as goal

abbrev pub invariant-loop-k : goal.invariant-loop-k
invariant-loop-k l = (l.room.items ≡ take l.k (lines_of l.histories l.program)) × (length (lines_of l.histories l.program) ≤ vec_capacity l.room) × (l.count ≡ length (lines_of l.histories l.program))
