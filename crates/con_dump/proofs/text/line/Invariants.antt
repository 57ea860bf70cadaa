-- The cells so far.
use Rattle.std.proofs.Common.{◌≡◌, ◌+◌, ◌∷◌, ◌++◌, map, take}
use Rattle.std.specs.Prelude.{vec_len, vec_capacity}
use Rattle.con_dump.proofs.text.line.Given as goal

abbrev pub invariant-loop-cell : goal.invariant-loop-cell
invariant-loop-cell l = record {
  items : l.out.items ≡ l.fn.out.items ++ 0x7C ∷ map (λ c. c.unit) (take l.cell-index l.row);
  len : vec_len l.out ≡ vec_len l.fn.out + 1 + l.cell-index;
  capacity : vec_capacity l.out ≡ vec_capacity l.fn.out;
}
