-- Terminal runs: a terminal that plays a stream piece by piece, one for each Paint, and takes a new size at each Resize.
use Rattle.std.specs.Prelude.{ℕ, ◌-◌, ◌≤◌, List, [], ◌∷◌, length, take, drop, Option, Some, None}
use Rattle.con_units.specs.declared.place.Size.{Size}
use Rattle.con_units.specs.declared.view.View.{View}
use Rattle.con_units.specs.declared.view.Sight.{Sight}
use Rattle.con_units.specs.declared.view.Sight.TheVariants as sights
use Rattle.con_term.specs.Play.{play}
use Rattle.con_term.specs.Terminal.{Terminal, IsTerminal, Shows}

-- What is claimed of each Paint: of the view that was shown before it at this size, if any, its own view, its bytes, and the
-- terminal that they are played on. The claim is made where all its bytes are in the stream.
unfoldable pub EachPaint : (Option View → View → List ℕ → Terminal → Type 0) → Terminal → Option View → ℕ → List ℕ → List Sight → List ℕ → Type 0
EachPaint claim t last from stream [] ends = Unit {0}
EachPaint claim t last from stream (sights.Resize z ∷ ss) ends = (u : Terminal) → IsTerminal z.w z.h u → EachPaint claim u None from stream ss ends
EachPaint claim t last from stream (sights.Paint v ∷ ss) [] = Unit {0}
EachPaint claim t last from stream (sights.Paint v ∷ ss) (e ∷ es) = let bytes = take (e - from) (drop from stream) in
    (from ≤ e) × (e ≤ length stream → claim last v bytes t) × EachPaint claim (play t bytes) (Some v) e stream ss es

-- in every terminal run of these sights, a stream and its ends, each Paint has what is claimed
unfoldable pub EachRun : (Option View → View → List ℕ → Terminal → Type 0) → Size → List ℕ → List Sight → List ℕ → Type 0
EachRun claim size stream ss ends = (t : Terminal) → IsTerminal size.w size.h t → EachPaint claim t None 0 stream ss ends

-- after a Paint the terminal shows its view
abbrev pub ShowsView : Option View → View → List ℕ → Terminal → Type 0
ShowsView last v bytes t = Shows (play t bytes) v
