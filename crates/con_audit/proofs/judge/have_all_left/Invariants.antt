-- What is to come tells.
use Rattle.std.proofs.Common.{◌≡◌, drop}
use Rattle.con_audit.specs.Judging.{all_gone}
use Rattle.con_audit.proofs.judge.have_all_left.Given as goal

abbrev pub invariant-loop-track : goal.invariant-loop-track
invariant-loop-track l = all_gone (drop l.track-index l.tracks) ≡ all_gone l.fn.tracks
