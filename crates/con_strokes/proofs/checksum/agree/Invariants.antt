-- The rows so far agree.
use Rattle.std.proofs.Common.{◌≡◌, ◌+◌, ◌<◌, ℕ, get_or}
use Rattle.con_strokes.specs.declared.checksum.Checksums.{Checksums}
use Rattle.con_strokes.proofs.checksum.agree.Given as goal

abbrev pub invariant-loop-y : goal.invariant-loop-y
invariant-loop-y l = (z : ℕ) (a b : Checksums) → z < l.y → (get_or l.sums z a).now ≡ (get_or l.sums (z + l.by) b).was
