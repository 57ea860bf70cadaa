-- The writer's thread.
use Rattle.std.specs.Prelude.{◌≡◌, ◌⊎◌, ◌≤◌, ℕ, Bool, true, ◌||◌, List, Option}
use Rattle.con_outside.specs.Outside.{Rose}
use Rattle.con_actors.specs.Painting.{Written}
use Rattle.con_pipe.specs.PipeEnds.{pieces_taken, has_ended, IsSameOut}
use Rattle.con_threads.specs.declared.writer.WriterThread.{WriterThread}

-- a front of the pieces that it took, all of them while the sink did not fail and there was memory
abbrev pub Writes : Option (List ℕ) → Option (List ℕ) → List (List ℕ) → Bool → Bool → Type 0
Writes before now taken failed broken = Written before now taken (failed || broken)

-- It took the end mark, and went on writing as it wrote. It failed only where the sink did, whose failures are counted.
pub record HasWritten (old new : WriterThread) (was now : Option (List ℕ)) (faults faults' : ℕ) : Type 0 where
  pub pipe : IsSameOut old.take new.take
  pub ended : has_ended new.take ≡ true
  pub wrote : (before : Option (List ℕ)) → Writes before was (pieces_taken old.take) old.failed old.broken
      → Writes before now (pieces_taken new.take) new.failed new.broken
  pub fails : new.failed ≡ true → (old.failed ≡ true) ⊎ Rose faults faults'
  pub never_falls : faults ≤ faults'
