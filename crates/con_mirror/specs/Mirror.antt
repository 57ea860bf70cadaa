-- A mirror as contracts see it: what its painter keeps, where a terminal is attached, and the view that was given last.
use Rattle.std.specs.Prelude.{◌≡◌, ℕ, ◌+◌, ◌<◌, ◌≤◌, Bool, false, List, length, slice_index_or, Option, Some, None}
use Rattle.con_units.specs.View.{row_of}
use Rattle.con_units.specs.declared.place.Size.{Size}
use Rattle.con_units.specs.declared.view.View.{View}
use Rattle.con_term.specs.Terminal.{Terminal}
use Rattle.con_paint.specs.Painter.{Kept, Allows, IsShown, Paints, frame_room}
use Rattle.con_mirror.specs.Part.{part}

-- what the painter keeps, where a terminal is attached, and the view that was given last since it was
pub record Following : Type 0 where
  pub kept : Option Kept
  pub given : Option View

-- A mark for each row of a view. One without is as it was in the view that was given last.
pub record AreSince (given : Option View) (v : View) (marks : List Bool) : Type 0 where
  pub count : length marks ≡ v.size.h
  pub same : (last : View) → given ≡ Some last → (y : ℕ) → y < v.size.h → slice_index_or marks y false ≡ false
      → (last.size.w ≡ v.size.w) × (row_of v.size.w v.rows y ≡ row_of v.size.w last.rows y)

-- the size of a painter's terminal
abbrev pub size_in : Kept → Size
size_in k = record { w = k.w; h = k.h }

-- the size of the terminal that is attached, where one is
abbrev pub at_size : Option Kept → Option Size
at_size None = None
at_size (Some k) = Some (size_in k)

-- a frame: of every terminal that the mirror allows it makes one that shows the part, and that the mirror allows again
pub record Mirrored (k after : Kept) (v : View) (bytes : List ℕ) : Type 0 where
  pub paints : (t : Terminal) → Allows k t → Paints k after (part v (size_in k)) bytes t
  pub shown : IsShown after (part v (size_in k))
  pub wide : after.w ≡ k.w
  pub high : after.h ≡ k.h

-- a terminal is attached and stays, and this is its frame
abbrev pub IsMirrored : Option Kept → Option Kept → View → List ℕ → Type 0
IsMirrored None new v bytes = ⊥
IsMirrored (Some k) None v bytes = ⊥
IsMirrored (Some k) (Some after) v bytes = Mirrored k after v bytes

-- what the painter painted last is the part of this view
abbrev pub WasMirrored : Option Kept → View → Type 0
WasMirrored None v = ⊥
WasMirrored (Some k) v = IsShown k (part v (size_in k))

-- a terminal is attached, and there is room for a frame of its size behind so many bytes
abbrev pub HasRoom : Option Kept → ℕ → ℕ → Type 0
HasRoom None len capacity = ⊥
HasRoom (Some k) len capacity = len + frame_room k.w k.h ≤ capacity
