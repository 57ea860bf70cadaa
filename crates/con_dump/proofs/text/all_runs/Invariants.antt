-- The rows so far.
use Rattle.std.proofs.Common.{◌≡◌, ◌++◌}
use Rattle.con_dump.specs.Dump.{runs_text}
use Rattle.con_dump.proofs.text.all_runs.Given as goal

abbrev pub invariant-loop-y : goal.invariant-loop-y
invariant-loop-y l = l.out.items ≡ l.fn.out.items ++ runs_text l.fn.size.w l.cells l.y
