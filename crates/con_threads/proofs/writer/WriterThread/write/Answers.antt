use Rattle.std.proofs.Common.{refl, true}
use Rattle.con_threads.proofs.Writing.{writes_failed, writes_broken, writes_whole, writes_part, or_right}
use Rattle.con_threads.proofs.writer.WriterThread.write.Goals as goal

pub returns-then-self-clause-wrote : goal.returns-then-self-clause-wrote
returns-then-self-clause-wrote g c = λ before ps w. writes_failed before _ ps _ _ _ c.if-self.true w

pub returns-then-self-2-clause-wrote : goal.returns-then-self-2-clause-wrote
returns-then-self-2-clause-wrote g c = λ before ps w. writes_broken before _ ps _ _ _ c.if-self-2.true w

pub returns-in-Ok-clause-wrote : goal.returns-in-Ok-clause-wrote
returns-in-Ok-clause-wrote g c = λ before ps w. writes_whole before _ _ ps _ _ _ _ c.if-self.false c.if-self-2.false c.as_slice.ensures c.in-Ok.ensures.whole w

pub returns-in-Err-Failed-clause-wrote : goal.returns-in-Err-Failed-clause-wrote
returns-in-Err-Failed-clause-wrote g c =
    λ before ps w. writes_part before _ _ ps _ _ _ _ true refl c.if-self.false c.if-self-2.false c.as_slice.ensures c.write_whole.ensures.front w

pub returns-in-Err-OutOfMemory-clause-wrote : goal.returns-in-Err-OutOfMemory-clause-wrote
returns-in-Err-OutOfMemory-clause-wrote g c =
    λ before ps w. writes_part before _ _ ps _ _ _ _ _ (or_right _ true refl) c.if-self.false c.if-self-2.false c.as_slice.ensures c.write_whole.ensures.front w
