-- What is left of the row.
use Rattle.std.proofs.Common.{◌≡◌, ◌≤◌, ◌+◌, ◌*◌, ◌++◌, drop}
use Rattle.std.specs.Prelude.{vec_len, vec_capacity}
use Rattle.con_units.specs.Attr.{plain}
use Rattle.con_dump.specs.Dump.{run_lines}
use Rattle.con_dump.proofs.text.runs.Given as goal

abbrev pub invariant-loop-cell : goal.invariant-loop-cell
invariant-loop-cell l = record {
  lines : l.out.items ++ run_lines l.y l.so_far.x l.so_far.n l.so_far.attr (drop l.cell-index l.row) ≡ l.fn.out.items ++ run_lines l.y 0 0 (plain 7) l.row;
  few : l.so_far.x + l.so_far.n ≡ l.cell-index;
  room : vec_len l.out ≤ vec_len l.fn.out + 28 * l.cell-index;
  capacity : vec_capacity l.out ≡ vec_capacity l.fn.out;
}
