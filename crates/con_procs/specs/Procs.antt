-- The processes, the first of which has the number 1.
use Rattle.std.specs.Prelude.{ℕ, ◌+◌, ◌-◌, ◌==◌, ◌&&◌, ◌||◌, Bool, true, false, not, List, [], ◌∷◌, Option, Some, None, Result, Ok, Err, drop, map, nat_lt, slice_get, slice_set, if◌then◌else◌, is_some, replicate}
use Rattle.std.specs.List.{list_any}
use Rattle.std.specs.Option.{option_map_or}
use Rattle.con_units.specs.Units.{changed_at}
use Rattle.con_units.specs.declared.code.Code.{Code}
use Rattle.con_units.specs.declared.code.Code.TheVariants as code
use Rattle.con_procs.specs.Pending.{pended}
use Rattle.con_procs.specs.declared.rack.Place.{Place}
use Rattle.con_procs.specs.declared.rack.Place.TheVariants as place
use Rattle.con_procs.specs.declared.proc.Proc.{Proc}
use Rattle.con_procs.specs.declared.proc.ProcStart.{ProcStart}

-- a process that has just started
abbrev pub started : ProcStart → Proc
started s = record { program = s.program; group = s.group; ignore = false; ended = None; pending = []; rack = replicate s.rack place.Fresh }

abbrev pub is_live : Proc → Bool
is_live p = not (is_some p.ended)

-- the process of this number
abbrev pub proc_of : List Proc → ℕ → Option Proc
proc_of ps k = if k == 0 then None else slice_get ps (k - 1)

abbrev pub is_attached : List Proc → ℕ → Bool
is_attached ps k = nat_lt 0 k && option_map_or is_live (slice_get ps (k - 1)) false

-- the numbers of the attached ones, where the first has this number
unfoldable pub ids_from : ℕ → List Proc → List ℕ
ids_from k [] = []
ids_from k (p ∷ ps) = if is_live p then k ∷ ids_from (k + 1) ps else ids_from (k + 1) ps

abbrev pub ids_of : List Proc → List ℕ
ids_of ps = ids_from 1 ps

-- an attached process is of this group
abbrev pub group_known : List Proc → ℕ → Bool
group_known ps group = list_any (λ p. is_live p && p.group == group) ps

abbrev pub program_of : List Proc → ℕ → List ℕ
program_of ps k = option_map_or (λ p. p.program) (proc_of ps k) []

-- the programs of the attached ones, in the order of their numbers
abbrev pub programs_of : List Proc → List (List ℕ)
programs_of [] = []
programs_of (p ∷ ps) = if is_live p then p.program ∷ programs_of ps else programs_of ps

-- whether an event, signalled to a group, reaches a process: CTRL_C_EVENT (0), CTRL_BREAK_EVENT (1),
-- CTRL_CLOSE_EVENT (2)
abbrev pub reaches : ℕ → ℕ → Proc → Bool
reaches event group p =
    is_live p && (if event == 0 then group == 0 && not p.ignore else if event == 1 then group == 0 || p.group == group else true)

-- each process that is reached has the event pending, after those that it had
abbrev pub signalled : List Proc → ℕ → ℕ → List Proc
signalled ps event group = map {A = Proc} (λ p. if reaches event group p then record p { pending = pended p.pending event } else p) ps

-- the process of this number, if there is one, is changed
abbrev pub changed : (Proc → Proc) → List Proc → ℕ → List Proc
changed f ps k = if k == 0 then ps else changed_at f ps (k - 1)

abbrev pub exited : List Proc → ℕ → ℕ → List Proc
exited ps k status = changed (λ p. record p { ended = Some status }) ps k

abbrev pub ignoring : List Proc → ℕ → Bool → List Proc
ignoring ps k on = changed (λ p. record p { ignore = on }) ps k

abbrev pub first_pending : List Proc → ℕ → Option ℕ
first_pending ps k = slice_get (option_map_or (λ p. p.pending) (proc_of ps k) []) 0

abbrev pub took_pending : List Proc → ℕ → List Proc
took_pending ps k = changed (λ p. record p { pending = drop 1 p.pending }) ps k

-- what a place of a process's rack is
abbrev pub place_in : List Proc → ℕ → ℕ → Option Place
place_in ps k place = slice_get (option_map_or (λ p. p.rack) (proc_of ps k) []) place

-- the place is there, and was never added
abbrev pub is_fresh : Option Place → Bool
is_fresh (Some place.Fresh) = true
is_fresh _ = false

-- the place is in the chain
abbrev pub is_chained : Option Place → Bool
is_chained (Some place.Chained) = true
is_chained _ = false

abbrev pub granted : Bool → Result (Unit {0}) Code
granted good = if good then Ok tt else Err code.BadArgument

abbrev pub placed : List Proc → ℕ → ℕ → Place → List Proc
placed ps k at to = changed (λ p. record p { rack = slice_set p.rack at to }) ps k

abbrev pub add_answer : List Proc → ℕ → ℕ → Result (Unit {0}) Code
add_answer ps k at = granted (is_fresh (place_in ps k at))

abbrev pub handler_added : List Proc → ℕ → ℕ → List Proc
handler_added ps k at = if is_fresh (place_in ps k at) then placed ps k at place.Chained else ps

abbrev pub remove_answer : List Proc → ℕ → ℕ → Result (Unit {0}) Code
remove_answer ps k at = granted (is_chained (place_in ps k at))

abbrev pub handler_removed : List Proc → ℕ → ℕ → List Proc
handler_removed ps k at = if is_chained (place_in ps k at) then placed ps k at place.Removed else ps
