-- The bytes of a link begin with one frame at most, and then nothing else is the rest.
use Rattle.std.specs.Prelude.{◌≡◌, ℕ, Bool, true, false, List, ◌++◌, IsTrue, Option, Some, Result, Ok, Err}
use Rattle.con_units.specs.declared.view.Frame.{Frame}
use Rattle.con_units.specs.declared.view.FrameFault.{FrameFault}
use Rattle.con_units.specs.declared.view.Frame.TheVariants.{End}
use Rattle.con_link.specs.declared.fault.LinkFault.{LinkFault}
use Rattle.con_link.specs.declared.fault.LinkFault.TheVariants as faults
use Rattle.con_link.specs.Frames.{spelling, is_frame}
use Rattle.con_link.specs.Plainly.{Shows, Answers}

abbrev pub OneFrame : Type 0
OneFrame = (f g : Frame) (r s : List ℕ) → IsTrue (is_frame f) → IsTrue (is_frame g) → (f ≡ End → ⊥) → (g ≡ End → ⊥)
    → spelling f ++ r ≡ spelling g ++ s → (f ≡ g) × (r ≡ s)

-- Where a fault shows, no frame stands. A cut one shows where nothing more comes.
abbrev pub NoFrame : Type 0
NoFrame = (kind : FrameFault) (text rest : List ℕ) (left : Option (List ℕ)) → Shows kind text left → left ≡ Some rest
    → (f : Frame) (s : List ℕ) → IsTrue (is_frame f) → (f ≡ End → ⊥) → text ++ rest ≡ spelling f ++ s → ⊥

-- the answers that the link alone determines
abbrev pub is_told : Result Frame LinkFault → Bool
is_told (Ok frame) = true
is_told (Err (faults.Bad place kind)) = true
is_told (Err faults.TooLong) = true
is_told (Err faults.Failed) = false
is_told (Err faults.OutOfMemory) = false

-- But for a failed source and want of memory, a link's bytes and the place determine the answer and the bytes taken.
abbrev pub OneAnswer : Type 0
OneAnswer = (a b : Result Frame LinkFault) (place : ℕ) (x y l m : List ℕ) → IsTrue (is_told a) → IsTrue (is_told b)
    → Answers a place x (Some l) → Answers b place y (Some m) → x ++ l ≡ y ++ m → (a ≡ b) × (x ≡ y)
