-- One of the clients moves.
use Rattle.std.proofs.Common.{rules}
use Rattle.con_audit.proofs.Tracks.{went_on}
use Rattle.con_audit.proofs.judge.go_on.Goals as goal

pub returns : goal.returns
returns c = went_on c.args.tracks.now.items _ c.args.p c.index_mut-track.result.now c.enter.new.self _ c.requires.0 c.requires.1 c.index_mut-track.ensures.value c.in_ok-enter.ensures (search rules)
