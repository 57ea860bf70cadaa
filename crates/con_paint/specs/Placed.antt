-- The cursor at the end of a frame.
use Rattle.std.specs.Prelude.{ℕ, pos, Bool, true, false, ◌≡◌, ◌<◌, List}
use Rattle.con_units.specs.declared.view.View.{View}
use Rattle.con_term.specs.Page.{Page}
use Rattle.con_strokes.specs.Leads.{Leads}
use Rattle.con_paint.specs.declared.frame.Caret.{Caret}
use Rattle.con_strokes.specs.declared.spot.Spot.{Spot}

-- the bytes change the cursor alone, and leave it at the spot, which is the caret where that shows
pub record Placed (old new : List ℕ) (s : Page) (caret : Caret) (spot : Spot) : Type 0 where
  pub x : ℕ
  pub y : ℕ
  pub pending : Bool
  pub leads : Leads old new s (record s { x = x; y = y; pending = pending; visible = caret.visible }) 0
  pub inside : (x < s.w) × (y < s.h)
  pub place : spot.known ≡ true → (x ≡ spot.x) × (y ≡ spot.y) × (pending ≡ false)
  pub shown : caret.visible ≡ true → (spot.known ≡ true) × (spot.x ≡ caret.x) × (spot.y ≡ caret.y)

-- the caret is the cursor of a view
pub record IsCaret (v : View) (caret : Caret) : Type 0 where
  pub visible : caret.visible ≡ v.visible
  pub column : v.visible ≡ true → pos caret.x ≡ v.cursor.x
  pub row : v.visible ≡ true → pos caret.y ≡ v.cursor.y
  pub inside : v.visible ≡ true → (caret.x < v.size.w) × (caret.y < v.size.h)
  pub small : (caret.x < 999) × (caret.y < 999)
