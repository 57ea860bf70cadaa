-- no gap so far
use Rattle.std.proofs.Common.{◌≡◌, ◌+◌, drop}
use Rattle.case_lines.specs.Wanted.{block_len}
use Rattle.case_lines.proofs.wanted.block_len.Given as goal

abbrev pub invariant-loop-at : goal.invariant-loop-at
invariant-loop-at l = l.at + block_len (drop l.at l.wanted) ≡ block_len l.wanted
