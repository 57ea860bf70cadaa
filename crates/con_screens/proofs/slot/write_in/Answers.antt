use Rattle.con_screens.proofs.KeepLemmas.{written_keeps}
use Rattle.con_screens.proofs.slot.write_in.Goals as goal

pub returns-clause-kept : goal.returns-clause-kept
returns-clause-kept c = λ w h n old. written_keeps c.args.slot.now c.in-Some.buffer c.write.new.self w h n c.in-Some.is (c.write.ensures.kept w h n) old
