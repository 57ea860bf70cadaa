-- No byte so far is above the greatest.
use Rattle.std.proofs.Common.{◌≡◌, take, true, nat_le}
use Rattle.std.specs.List.{list_all}
use Rattle.con_dump.proofs.units.is_ascii.Given as goal

abbrev pub invariant-loop-byte : goal.invariant-loop-byte
invariant-loop-byte l = list_all (λ b. nat_le b l.most) (take l.byte-index l.bytes) ≡ true
