-- The characters that the byte completes.
use Rattle.con_audit.specs.Playing.{partial_of}
use Rattle.con_audit.proofs.PlayLemmas.{byte}
use Rattle.con_audit.proofs.playing.learn_byte.Goals as goal

pub returns-clause-played : goal.returns-clause-played
returns-clause-played c = byte (partial_of c.args.bytes.now c.args.page.now c.args.units.now c.args.marks.now c.args.flags) (partial_of c.feed-decoded.new.self c.learn_if-first.new.page c.learn_if-first.new.units c.learn_if-first.new.marks c.learn_if-first.result) _ c.args.byte c.feed-decoded.new.self _ _ c.feed-decoded.ensures.items c.feed-decoded.ensures.held (c.learn_if-first.ensures.typed _) (c.learn_if.ensures.typed _)
