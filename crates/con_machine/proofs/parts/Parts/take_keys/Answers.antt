-- One key more is taken.
use Rattle.con_machine.proofs.Arriving.{taken_next, next_of}
use Rattle.con_machine.proofs.parts.Parts.take_keys.Goals as goal

pub loop-key-preserved : goal.loop-key-preserved
loop-key-preserved c =
    taken_next c.args.self.now.state c.loop-key.self.state c.take_key.new.self.state c.args.keys.now c.loop-key.key-index c.args.self.now.spare.records c.loop-key.self.spare.records c.take_key.new.self.spare.records _
    c.loop-key.invariant (next_of c.args.keys.now c.loop-key.key-index _ c.loop-key-test.true) c.take_key.ensures.state c.take_key.ensures.spare
