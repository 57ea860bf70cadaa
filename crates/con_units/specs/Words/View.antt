-- The words of the code and of laws about View, which a reader need not believe.
use Rattle.std.specs.Prelude.{pos, ◌*◌, ◌≡◌, ◌≤ℤ◌, ◌<ℤ◌, true, length}
use Rattle.con_units.specs.declared.view.View.{View}

-- a view with all its cells, and with its cursor inside where it shows
pub record IsWhole (v : View) : Type 0 where
  pub cells : length v.rows ≡ v.size.h * v.size.w
  pub column : v.visible ≡ true → (pos 0 ≤ℤ v.cursor.x) × (v.cursor.x <ℤ pos v.size.w)
  pub row : v.visible ≡ true → (pos 0 ≤ℤ v.cursor.y) × (v.cursor.y <ℤ pos v.size.h)
