-- A painter as contracts see it, and the terminals that it allows.
use Rattle.std.specs.Prelude.{ℕ, pos, ◌+◌, ◌*◌, ◌<◌, ◌≤◌, ◌≡◌, Bool, true, false, List, length, replicate}
use Rattle.con_units.specs.Attr.{Attribute, plain}
use Rattle.con_units.specs.Glyph.{Glyph, blank_cell}
use Rattle.con_units.specs.declared.view.View.{View}
use Rattle.con_units.specs.Words.Limits.{IsWindow}
use Rattle.con_vtgram.specs.Pen.{IsPen}
use Rattle.con_term.specs.Page.{Page}
use Rattle.con_term.specs.Play.{play, printed}
use Rattle.con_term.specs.Terminal.{Terminal, IsTerminal, Shows}
use Rattle.con_strokes.specs.Ink.{pen_for}
use Rattle.con_strokes.specs.Compared.{differing, IsLifted}

-- what a painter keeps: whether it has painted at this size, that view, the attribute whose pen it left, and the cursor: whether
-- its place is known, with no wrap pending, and whether it shows
pub record Kept : Type 0 where
  pub w : ℕ
  pub h : ℕ
  pub known : Bool
  pub cells : List Glyph
  pub attr : Attribute
  pub placed : Bool
  pub x : ℕ
  pub y : ℕ
  pub visible : Bool

-- a painter that has painted nothing at this size
abbrev pub unpainted : ℕ → ℕ → Kept
unpainted w h = record { w = w; h = h; known = false; cells = replicate (h * w) blank_cell; attr = plain 7; placed = false; x = 0; y = 0; visible = false }

-- the view is what the painter painted last
pub record IsShown (p : Kept) (v : View) : Type 0 where
  pub known : p.known ≡ true
  pub cells : v.rows ≡ p.cells
  pub visible : p.visible ≡ v.visible
  pub placed : v.visible ≡ true → p.placed ≡ true
  pub column : v.visible ≡ true → pos p.x ≡ v.cursor.x
  pub row : v.visible ≡ true → pos p.y ≡ v.cursor.y

-- a page that shows what the painter painted last, with the pen and the cursor that it left
pub record Agrees (p : Kept) (s : Page) : Type 0 where
  pub cells : s.cells ≡ p.cells
  pub pen : s.pen ≡ pen_for p.attr
  pub visible : s.visible ≡ p.visible
  pub place : p.placed ≡ true → (s.x ≡ p.x) × (s.y ≡ p.y) × (s.pending ≡ false)

-- the terminals that a painter allows: before its first paint and after a resize every one of its size, later those that agree with it
pub record Allows (p : Kept) (t : Terminal) : Type 0 where
  pub terminal : IsTerminal p.w p.h t
  pub agrees : p.known ≡ true → Agrees p t.page

-- bytes bring a terminal to one that shows the view and that the painter allows, and print few cells
pub record Paints (before after : Kept) (v : View) (bytes : List ℕ) (t : Terminal) : Type 0 where
  pub shows : Shows (play t bytes) v
  pub allows : Allows after (play t bytes)
  pub first : before.known ≡ false → printed t bytes ≤ v.size.w * v.size.h
  pub few : before.known ≡ true → printed t bytes ≤ v.size.w * differing v.size.w v.size.h v.rows before.cells
  pub lifted : before.known ≡ true → (k : ℕ) → 0 < k → k ≤ v.size.h → IsLifted v.size.w v.size.h k v.rows before.cells → printed t bytes ≤ v.size.w * k

-- a painter keeps as many cells as a window of its size has, a place inside it, and a pen that a terminal may have
pub record IsKept (p : Kept) : Type 0 where
  pub window : IsWindow p.w p.h
  pub cells : length p.cells ≡ p.h * p.w
  pub place : p.placed ≡ true → (p.x < p.w) × (p.y < p.h)
  pub pen : IsPen (pen_for p.attr)

-- the spare that any frame of this size needs
abbrev pub frame_room : ℕ → ℕ → ℕ
frame_room w h = 160 + h * (11 + 57 * w)
