-- The words of the code and of laws about Alternate, which a reader need not believe.
use Rattle.std.specs.Prelude.{◌≡◌, ℕ, ◌++◌, ◌||◌, List, [], false}
use Rattle.con_screen.specs.Told.{Told}
use Rattle.con_screen.specs.Written.{written, switches}
use Rattle.con_screen.specs.Screen.{Screen}

-- whether a text in two parts switches
pub record IsSwitchedWhole : Type 0 where
  pub none : (s : Screen) → switches s [] ≡ false
  pub parts : (s : Screen) (t : Told) (front rest : List ℕ) → switches s (front ++ rest) ≡ (switches s front || switches (written s t front).screen rest)
