-- What a mirror's code keeps: a painter with the room of its parts.
use Rattle.std.specs.Prelude.{◌≡◌, ℕ, ◌+◌, ◌*◌, ◌<◌, Bool, List, length, true, false, slice_index_or, Option, Some, None, IfSome, option_map}
use Rattle.con_units.specs.Glyph.{Glyph}
use Rattle.con_units.specs.Words.Limits.{IsWindow}
use Rattle.con_units.specs.View.{row_of}
use Rattle.con_units.specs.declared.view.View.{View}
use Rattle.con_mirror.specs.Mirror.{Following}
use Rattle.con_mirror.specs.Part.{part, part_row}
use Rattle.con_mirror.specs.Parts.{left_of, top_of}
use Rattle.con_mirror.specs.declared.attached.Attached.{Attached}
use Rattle.con_mirror.specs.declared.attached.Given.{Given}
use Rattle.con_mirror.specs.declared.mirror.Mirror.TheInside.{Inside}

-- where the part begins where the one before did, its rows whose rows of the view have no mark stand there
abbrev pub IsSince : View → List Bool → ℕ → ℕ → ℕ → ℕ → Bool → List Glyph → Type 0
IsSince v since left top w h stays cells = stays ≡ true → (k : ℕ) → k < h → top + k < length since → slice_index_or since (top + k) false ≡ false
    → part_row v left w (top + k) ≡ row_of w cells k

-- the view that was given last, if one was
abbrev pub given_in : Option Given → Option View
given_in given = option_map (λ g. g.view.value) given

-- the part of the view that was given last is what was shown last, and begins there
pub record IsGiven (a : Attached) (g : Given) : Type 0 where
  pub shown : a.shown ≡ part g.view.value a.shown.size
  pub left : g.corner.left ≡ left_of g.view.value a.shown.size.w
  pub top : g.corner.top ≡ top_of g.view.value a.shown.size.h

-- the part that was shown last has all its cells, at the painter's size, and a mark for each row; where the painter knows its terminal, it was that part
pub record IsAttached (a : Attached) : Type 0 where
  pub window : IsWindow a.painter.w a.painter.h
  pub wide : a.shown.size.w ≡ a.painter.w
  pub high : a.shown.size.h ≡ a.painter.h
  pub cells : length a.shown.rows ≡ a.painter.h * a.painter.w
  pub marks : length a.marks ≡ a.painter.h
  pub same : a.painter.known ≡ true → a.shown.rows ≡ a.painter.cells
  pub given' : IfSome a.given (λ g. IsGiven a g)

abbrev pub given_of : Option Attached → Option View
given_of None = None
given_of (Some a) = given_in a.given

abbrev pub following_of : Inside → Following
following_of m = record { kept = option_map (λ a. a.painter) m.attached; given = given_of m.attached }

abbrev pub IsInside : Inside → Type 0
IsInside m = IfSome m.attached IsAttached
