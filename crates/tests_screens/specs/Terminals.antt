-- What terminals show of bytes.
use Rattle.std.specs.Prelude.{ℕ, List, [], ◌∷◌, ◌++◌, fold, codes}
use Rattle.con_term.specs.Page.{blank_page}
use Rattle.con_term.specs.Play.{play}
use Rattle.con_term.specs.Terminal.{Terminal}
use Rattle.tests_screens.specs.Screens.{escape}

-- a new terminal of these sides, and one that takes this size
abbrev pub blank : ℕ → ℕ → Terminal
blank w h = record { page = blank_page w h; bytes = []; units = [] }

abbrev pub played_each : Terminal → List ℕ → Terminal
played_each t bytes = fold (λ t byte. play t (byte ∷ [])) t bytes

-- byte by byte, up to the front of a sequence
abbrev pub within : Terminal
within = played_each (blank 3 1) (0x61 ∷ escape (codes "[31;4mb") ++ escape (codes "[?25l") ++ escape (codes "[m") ++ escape (codes "["))

-- lines, each with its end
abbrev pub line : List ℕ → List ℕ
line text = text ++ 0x0A ∷ []
