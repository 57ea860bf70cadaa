use Rattle.std.proofs.Common.{◌≡◌}
use Rattle.std.specs.Prelude.{replicate}
use Rattle.con_inspect.specs.Finding.{kinds}
use Rattle.con_inspect.proofs.judging.racks_of.Given as goal

abbrev pub invariant-loop-client : goal.invariant-loop-client
invariant-loop-client l = l.racks.items ≡ replicate l._client kinds
