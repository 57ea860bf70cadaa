use Rattle.std.proofs.Common.{◌≡◌, ◌+◌, ◌++◌, replicate, vec_len, vec_capacity}
use Rattle.con_vtin.specs.Table.{replacement}
use Rattle.con_vtin.proofs.character.push_replacements.Given as goal

abbrev pub invariant-loop-i : goal.invariant-loop-i
invariant-loop-i l = record {
  items : l.out.items ≡ l.fn.out.items ++ replicate l.i replacement;
  len : vec_len l.out ≡ vec_len l.fn.out + l.i;
  room : vec_capacity l.out ≡ vec_capacity l.fn.out;
}
