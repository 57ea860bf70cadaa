-- What the rows begin with.
use Rattle.std.specs.Prelude.{ℕ, zero, suc, true, List, [], ◌∷◌, Option, option_map}
use Rattle.con_units.specs.declared.view.BufferId.{BufferId}
use Rattle.con_records.specs.declared.record.Key.{Key}
use Rattle.con_events.specs.declared.script.Script.{Script}
use Rattle.con_handles.specs.Words.Handles.{Table, opened, with_room, taken, least_of}
use Rattle.con_handles.specs.declared.handle.Object.{Object}
use Rattle.con_handles.specs.declared.handle.Object.TheVariants as objects
use Rattle.con_procs.specs.Procs.{started}
use Rattle.con_procs.specs.declared.proc.Proc.{Proc}

-- ---- handles

abbrev pub with_handle : Table → ℕ → Object → Table
with_handle t process object = opened (with_room t) process object 3

-- a process has 1 for input, and 2 and 3 for a buffer
abbrev pub with_three : BufferId → Table → ℕ → Table
with_three main t process = with_handle (with_handle (with_handle t process objects.Input) process (objects.Output main)) process (objects.Output main)

-- two processes have them
abbrev pub two_have : BufferId → ℕ → ℕ → Table
two_have main p q = with_three main (with_three main (record { open_ones = []; spare = 0 }) p) q

-- what a process takes, so many times
abbrev pub takes : ℕ → Table → ℕ → List (Option Object)
takes zero t process = []
takes (suc n) t process = option_map (λ h. h.object) (least_of t.open_ones process) ∷ takes n (taken t process) process

abbrev pub after_takes : ℕ → Table → ℕ → Table
after_takes zero t process = t
after_takes (suc n) t process = after_takes n (taken t process) process

-- ---- processes

-- one of a group, with so many places
abbrev pub process : ℕ → ℕ → Proc
process group rack = started (record { program = []; group = group; rack = rack })

-- ---- a key, and scripts

abbrev pub alt_alone : Key
alt_alone = record { down = true; repeat = 1; vk = 0; scan = 0; unit = 0; state = 0x02 }

-- a client of a group, whose program is a
abbrev pub one_client : ℕ → List Script
one_client group = record { program = 97 ∷ []; group = group; steps = [] } ∷ []
