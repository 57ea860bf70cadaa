-- The clients so far.
use Rattle.std.proofs.Common.{◌≡◌, ◌≤◌, length, vec_len, vec_capacity}
use Rattle.con_machine.specs.Client.{starting}
use Rattle.con_machine.specs.Follows.{steps_of, kinds_of}
use Rattle.con_audit.specs.Judging.{AreTracks}
use Rattle.con_audit.proofs.judge.tracks_of.Given as goal

abbrev pub invariant-loop-at : goal.invariant-loop-at
invariant-loop-at l = AreTracks l.at (λ p. starting (steps_of l.session p) (kinds_of l.racks p)) l.tracks.items × (vec_len l.tracks ≡ l.at) × (length l.scripts ≤ vec_capacity l.tracks)
