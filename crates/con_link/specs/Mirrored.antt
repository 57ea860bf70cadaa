-- The frames of a link that may have a second terminal: A, by which it attaches, D, by which it detaches, and those of any link.
use Rattle.std.specs.Prelude.{ℕ, Bool, true, List, [], ◌∷◌, drop}
use Rattle.con_units.specs.declared.view.Frame.{Frame}
use Rattle.con_units.specs.declared.view.Frame.TheVariants.{Resize, Ask}
use Rattle.con_link.specs.declared.mirror.MirrorFrame.{MirrorFrame}
use Rattle.con_link.specs.declared.mirror.MirrorFrame.TheVariants.{Plain, Attach, Detach}
use Rattle.con_link.specs.Frames.{spelling, is_frame}

-- The bytes of a frame, what is stated of its numbers, and what it counts as to the console: A is spelled as a new size is, but for its first byte; A and D
-- ask for a frame of output, as P does.
abbrev pub row : MirrorFrame → List ℕ × Bool × Frame
row (Plain frame) = (spelling frame, is_frame frame, frame)
row (Attach size) = (65 ∷ drop 1 (spelling (Resize size)), is_frame (Resize size), Ask)
row Detach = (68 ∷ [], true, Ask)
