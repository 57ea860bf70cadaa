-- What is printed in a terminal run.
use Rattle.std.specs.Prelude.{ℕ, ◌*◌, ◌<◌, ◌≤◌, List, Option, Some, None}
use Rattle.con_units.specs.declared.view.View.{View}
use Rattle.con_term.specs.Play.{printed}
use Rattle.con_term.specs.Terminal.{Terminal}
use Rattle.con_strokes.specs.Compared.{differing, IsLifted}

-- at most the rows that differ are printed, or the window
abbrev pub PrintsFew : Option View → View → List ℕ → Terminal → Type 0
PrintsFew None v bytes t = printed t bytes ≤ v.size.w * v.size.h
PrintsFew (Some old) v bytes t = printed t bytes ≤ v.size.w * differing v.size.w v.size.h v.rows old.rows

-- at most k rows are printed where the rows are lifted by k
abbrev pub PrintsNewRows : Option View → View → List ℕ → Terminal → Type 0
PrintsNewRows None v bytes t = Unit {0}
PrintsNewRows (Some old) v bytes t = (k : ℕ) → 0 < k → k ≤ v.size.h → IsLifted v.size.w v.size.h k v.rows old.rows → printed t bytes ≤ v.size.w * k
