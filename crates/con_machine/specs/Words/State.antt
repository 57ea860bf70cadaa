-- The words of the code and of laws about State, which a reader need not believe.
use Rattle.std.specs.Prelude.{ℕ, ◌==◌, Bool, not, List, [], ◌∷◌, ◌++◌, map, filter, drop, get_or, Option, if◌then◌else◌}
use Rattle.std.specs.List.{list_any}
use Rattle.std.specs.Option.{option_map_or}
use Rattle.con_events.specs.declared.script.Script.{Script}
use Rattle.con_handles.specs.declared.handle.Handle.{Handle}
use Rattle.con_handles.specs.declared.handle.Object.TheVariants as object
use Rattle.con_procs.specs.Procs.{started}
use Rattle.con_procs.specs.declared.proc.Proc.{Proc}
use Rattle.con_procs.specs.declared.proc.ProcStart.{ProcStart}
use Rattle.con_machine.specs.State.{is_rest_of, id_of, starts_of}
use Rattle.con_machine.specs.declared.reads.noted.Noted.{Noted}
use Rattle.con_machine.specs.declared.reads.rest.Rest.{Rest}

abbrev pub is_noted : ℕ → Noted → Bool
is_noted p n = n.process == p

abbrev pub is_rest_by : ℕ → Rest → Bool
is_rest_by p r = r.process == p

abbrev pub units_of : Option Rest → List ℕ
units_of r = option_map_or (λ x. x.units) r []

abbrev pub has_rest : List Rest → ℕ → ℕ → Bool
has_rest rs p h = list_any (is_rest_of p h) rs

-- an empty rest, unless there is one
abbrev pub rest_begun : List Rest → ℕ → ℕ → List Rest
rest_begun rs p h = if has_rest rs p h then rs else rs ++ (let r : Rest = record { process = p; handle = h; units = [] } in r) ∷ []

abbrev pub without_rest : List Rest → ℕ → ℕ → List Rest
without_rest rs p h = filter (λ r. not (is_rest_of p h r)) rs

abbrev pub without_rests : List Rest → ℕ → List Rest
without_rests rs p = filter (λ r. not (is_rest_by p r)) rs

-- the standard handles of a client
abbrev pub first_handles : ℕ → List Handle
first_handles p = record { process = p; number = 1; object = object.Input; rights = 3 }
    ∷ record { process = p; number = 2; object = object.Output (id_of 0); rights = 3 }
    ∷ record { process = p; number = 3; object = object.Output (id_of 0); rights = 3 } ∷ []

-- how many handlers a client's rack has
abbrev pub first_or_none : List ℕ → ℕ
first_or_none racks = get_or racks 0 0

abbrev pub behind_first : List ℕ → List ℕ
behind_first racks = drop 1 racks

abbrev pub start_of : Script → ℕ → ProcStart
start_of s rack = record { program = s.program; group = s.group; rack = rack }

abbrev pub procs_of : List Script → List ℕ → List Proc
procs_of scripts racks = map started (starts_of scripts racks)
