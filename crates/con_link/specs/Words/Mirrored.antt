-- The words of the code and of laws about Mirrored, which a reader need not believe: the parts of a row, each alone.
use Rattle.std.specs.Prelude.{ℕ, Bool, List}
use Rattle.con_units.specs.declared.view.Frame.{Frame}
use Rattle.con_link.specs.Mirrored.{row}
use Rattle.con_link.specs.declared.mirror.MirrorFrame.{MirrorFrame}

abbrev pub mirror_spelling : MirrorFrame → List ℕ
mirror_spelling f = (row f).0

abbrev pub is_mirror_frame : MirrorFrame → Bool
is_mirror_frame f = (row f).1

abbrev pub as_plain : MirrorFrame → Frame
as_plain f = (row f).2
