-- A character at the front of bytes.
use Rattle.std.specs.Prelude.{ℕ, ◌≡◌, ◌≤◌, ◌<◌, List, [], ◌∷◌, length, take}
use Rattle.con_units.specs.Split.{split}
use Rattle.con_units.specs.Utf8.{utf8}
use Rattle.con_term.specs.declared.front.Front.{Front}
use Rattle.con_term.specs.Page.{Page}
use Rattle.con_term.specs.Terminal.{Terminal}
use Rattle.con_term.specs.Play.{play}

-- so many bytes at the front are one whole character
pub record IsFront (bytes : List ℕ) (f : Front) : Type 0 where
  pub few : f.count ≤ length bytes
  pub whole : split utf8 (take f.count bytes) ≡ record { items = f.code ∷ []; tail = [] }
  pub small : f.code < 0x140000

-- the bytes print what they are, in a terminal that waits for nothing
abbrev pub IsPrintedAs : Page → Page → List ℕ → Type 0
IsPrintedAs before after bytes = (t : Terminal) → t.bytes ≡ [] → t.units ≡ [] → t.page ≡ before → record t { page = after } ≡ play t bytes
