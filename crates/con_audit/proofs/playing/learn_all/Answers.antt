-- One byte more.
use Rattle.con_audit.specs.Playing.{partial_of}
use Rattle.con_audit.proofs.PlayLemmas.{played-none, played_more, played_whole}
use Rattle.con_audit.proofs.playing.learn_all.Goals as goal

pub loop-byte-init : goal.loop-byte-init
loop-byte-init c = (played-none _, c.requires.tied)

pub loop-byte-preserved : goal.loop-byte-preserved
loop-byte-preserved c = (played_more (partial_of c.args.bytes.now c.args.page.now c.args.units.now c.args.marks.now c.args.flags) _ _ c.args.input.now c.loop-byte.byte-index c.loop-byte-test.true c.loop-byte.invariant.0 c.learn_byte-known.ensures.played, c.learn_byte-known.ensures.tied)

pub returns-clause-played : goal.returns-clause-played
returns-clause-played c = played_whole (partial_of c.args.bytes.now c.args.page.now c.args.units.now c.args.marks.now c.args.flags) _ c.args.input.now c.loop-byte.byte-index c.loop-byte-test.false c.loop-byte.invariant.0
