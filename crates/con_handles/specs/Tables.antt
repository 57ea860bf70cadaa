-- What holds of every table, and how many of its handles pass a test.
use Rattle.std.specs.Prelude.{ℕ, ◌+◌, ◌<◌, ◌≤◌, Bool, List, [], ◌∷◌, if◌then◌else◌}
use Rattle.con_handles.specs.declared.handle.Handle.{Handle}
use Rattle.con_handles.specs.declared.handle.Object.{Object}
use Rattle.con_handles.specs.Places.{place_of}

-- a process is below 256, and numbers are 1 to 64
pub record IsHandle (h : Handle) : Type 0 where
  pub process : h.process < 256
  pub low : 1 ≤ h.number
  pub high : h.number ≤ 64

-- the handles rise by process and then by number, none before this place, and no two are at one
abbrev pub IsRising : ℕ → List Handle → Type 0
IsRising from [] = Unit {0}
IsRising from (h ∷ hs) = IsHandle h × (from ≤ place_of h.process h.number) × IsRising (place_of h.process h.number + 1) hs

-- the handles of a table
abbrev pub IsTable : List Handle → Type 0
IsTable hs = IsRising 0 hs

-- how many handles pass a test
abbrev pub tally : (Handle → Bool) → List Handle → ℕ
tally t [] = 0
tally t (h ∷ hs) = (if t h then 1 else 0) + tally t hs

-- a test of what handles stand for
abbrev pub on : (Object → Bool) → Handle → Bool
on t h = t h.object
