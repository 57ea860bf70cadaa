-- The words of the code and of laws about Procs, which a reader need not believe: what the words of Procs say of one process that is there or not.
use Rattle.std.specs.Prelude.{ℕ, ◌==◌, ◌&&◌, Bool, false, List, [], Option, option_and_then, if◌then◌else◌}
use Rattle.std.specs.Option.{option_map_or}
use Rattle.con_procs.specs.Pending.{pended}
use Rattle.con_procs.specs.Procs.{is_live, proc_of, reaches}
use Rattle.con_procs.specs.declared.rack.Place.{Place}
use Rattle.con_procs.specs.declared.proc.Proc.{Proc}

abbrev pub status_of : List Proc → ℕ → Option ℕ
status_of ps k = option_and_then (λ p. p.ended) (proc_of ps k)

abbrev pub live_in : Option Proc → Bool
live_in o = option_map_or is_live o false

-- an attached process of this group
abbrev pub is_member : ℕ → Proc → Bool
is_member group p = is_live p && p.group == group

abbrev pub program_in : Option Proc → List ℕ
program_in o = option_map_or (λ p. p.program) o []

-- a process after an event was signalled to a group
abbrev pub told : ℕ → ℕ → Proc → Proc
told event group p = if reaches event group p then record p { pending = pended p.pending event } else p

abbrev pub pending_in : Option Proc → List ℕ
pending_in o = option_map_or (λ p. p.pending) o []

abbrev pub rack_in : Option Proc → List Place
rack_in o = option_map_or (λ p. p.rack) o []
