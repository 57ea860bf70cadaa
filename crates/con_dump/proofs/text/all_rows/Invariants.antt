-- The rows so far.
use Rattle.std.proofs.Common.{◌≡◌, ◌++◌}
use Rattle.con_dump.specs.Dump.{rows_text}
use Rattle.con_dump.proofs.text.all_rows.Given as goal

abbrev pub invariant-loop-y : goal.invariant-loop-y
invariant-loop-y l = l.out.items ≡ l.fn.out.items ++ rows_text l.fn.size.w l.cells l.y
