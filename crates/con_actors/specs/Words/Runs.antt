-- The words of the code and of laws about Runs, which a reader need not believe.
use Rattle.std.specs.Prelude.{◌≡◌, ℕ, ◌+◌, List, [], ◌∷◌, ◌++◌, length, Option, Some, None}
use Rattle.con_units.specs.declared.view.View.{View}
use Rattle.con_units.specs.declared.view.Sight.{Sight}
use Rattle.con_units.specs.declared.view.Sight.TheVariants as sights
use Rattle.con_term.specs.Play.{play}
use Rattle.con_term.specs.Terminal.{Terminal, IsTerminal}
use Rattle.con_laws.specs.TerminalRuns.{ShowsView}
use Rattle.con_actors.specs.Runs.{PrintsFew, PrintsNewRows}

-- a Paint shows its view, and no more is printed than that takes
pub record Painted (last : Option View) (v : View) (bytes : List ℕ) (t : Terminal) : Type 0 where
  pub shows : ShowsView last v bytes t
  pub few : PrintsFew last v bytes t
  pub new_rows : PrintsNewRows last v bytes t

-- Terminal runs by pieces of the stream, one for each Paint.

-- a piece for each Paint
abbrev pub Matched : List Sight → List (List ℕ) → Type 0
Matched [] [] = Unit {0}
Matched [] (p ∷ ps) = ⊥
Matched (sights.Resize z ∷ ss) ps = Matched ss ps
Matched (sights.Paint v ∷ ss) [] = ⊥
Matched (sights.Paint v ∷ ss) (p ∷ ps) = Matched ss ps

abbrev pub EachPiece : (Option View → View → List ℕ → Terminal → Type 0) → Terminal → Option View → List Sight → List (List ℕ) → Type 0
EachPiece claim t last [] ps = Unit {0}
EachPiece claim t last (sights.Resize z ∷ ss) ps = (u : Terminal) → IsTerminal z.w z.h u → EachPiece claim u None ss ps
EachPiece claim t last (sights.Paint v ∷ ss) [] = Unit {0}
EachPiece claim t last (sights.Paint v ∷ ss) (p ∷ ps) = claim last v p t × EachPiece claim (play t p) (Some v) ss ps

-- a terminal that the run may have come to, and the view that it shows
abbrev pub Reaches : Terminal → Option View → List Sight → List (List ℕ) → Terminal → Option View → Type 0
Reaches t last [] ps u l = (u ≡ t) × (l ≡ last)
Reaches t last (sights.Resize z ∷ ss) ps u l = (x : Terminal) × IsTerminal z.w z.h x × Reaches x None ss ps u l
Reaches t last (sights.Paint v ∷ ss) [] u l = ⊥
Reaches t last (sights.Paint v ∷ ss) (p ∷ ps) u l = Reaches (play t p) (Some v) ss ps u l

-- the pieces one after another, and where each ends
abbrev pub joined : List (List ℕ) → List ℕ
joined [] = []
joined (p ∷ ps) = p ++ joined ps

abbrev pub ends_from : ℕ → List (List ℕ) → List ℕ
ends_from n [] = []
ends_from n (p ∷ ps) = (n + length p) ∷ ends_from (n + length p) ps
