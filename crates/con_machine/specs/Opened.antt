-- Handles of processes that have started: the code's own words.
use Rattle.std.specs.Prelude.{ℕ, ◌<◌, List, [], ◌∷◌}
use Rattle.con_handles.specs.Words.Handles.{opened}
use Rattle.con_handles.specs.declared.handle.Handle.{Handle}
use Rattle.con_handles.specs.declared.handle.Object.{Object}

-- all are of processes before this one
abbrev pub AreBefore : ℕ → List Handle → Type 0
AreBefore p [] = Unit {0}
AreBefore p (h ∷ hs) = (h.process < p) × AreBefore p hs

-- a handle more of a process, with all rights
abbrev pub opened_ones : ℕ → Object → List Handle → List Handle
opened_ones p o hs = (opened (record { open_ones = hs; spare = 1 }) p o 3).open_ones
