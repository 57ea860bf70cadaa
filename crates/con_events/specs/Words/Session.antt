-- The words of the code and of laws about Session, which a reader need not believe.
use Rattle.std.specs.Prelude.{ℕ, ◌+◌, Bool, true, if◌then◌else◌, ◌&&◌, nat_le, List, [], ◌∷◌, length, Option, Some, None}
use Rattle.con_units.specs.declared.place.Size.{Size}
use Rattle.con_events.specs.Session.{Clients, is_within, is_size}
use Rattle.con_events.specs.declared.script.Script.{Script}

-- a program of 1 to 255 units, a group of 1 or more, at most 1,024 steps
abbrev pub is_script : Script → Bool
is_script s = is_within 1 255 (length s.program) && nat_le 1 s.group && nat_le (length s.steps) 1024

abbrev pub all_scripts : List Script → Bool
all_scripts [] = true
all_scripts (s ∷ ss) = is_script s && all_scripts ss

-- the steps of all scripts
abbrev pub step_count : List Script → ℕ
step_count [] = 0
step_count (s ∷ ss) = length s.steps + step_count ss

-- 1 to 64 scripts, each within its limits, with at most 16,384 steps together
abbrev pub are_scripts : List Script → Bool
are_scripts ss = is_within 1 64 (length ss) && all_scripts ss && nat_le (step_count ss) 16384

abbrev pub is_session : Clients → Bool
is_session c = is_size c.size && are_scripts c.scripts

abbrev pub session_of : Size → List Script → Option Clients
session_of size scripts = if is_session (record { size = size; scripts = scripts }) then Some (record { size = size; scripts = scripts }) else None
