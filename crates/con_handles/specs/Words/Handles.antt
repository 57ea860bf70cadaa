-- The words of the code and of laws about Handles, which a reader need not believe.
use Rattle.std.specs.Prelude.{length, ℕ, ◌-◌, ◌==◌, ◌&&◌, ◌||◌, Bool, List, Option, Some, None, Result, Ok, Err, filter, nat_lt, max}
use Rattle.std.specs.List.{find, list_any}
use Rattle.std.specs.Option.{option_map_or}
use Rattle.con_units.specs.declared.code.Code.{Code}
use Rattle.con_units.specs.declared.code.Code.TheVariants as code
use Rattle.con_handles.specs.Handles.{is_at, free_from, new_number, entered, without, allowed, is_owned}
use Rattle.con_handles.specs.declared.handle.Handle.{Handle}
use Rattle.con_handles.specs.declared.handle.Object.{Object}
use Rattle.con_handles.specs.declared.handle.Kind.{Kind}

-- the open handles, in rising order of process and number, and for how many more there is room
pub record Table : Type 0 where
  pub open_ones : List Handle
  pub spare : ℕ

abbrev pub opened_at : Result ℕ Code → Table → ℕ → Object → ℕ → Table
opened_at (Err why) t process o rights = t
opened_at (Ok number) t process o rights = record {
  open_ones = entered (record { process = process; number = number; object = o; rights = rights }) t.open_ones;
  spare = t.spare - 1;
}

-- the table after a handle was opened, or refused
abbrev pub opened : Table → ℕ → Object → ℕ → Table
opened t process o rights = opened_at (new_number t.open_ones process) t process o rights

abbrev pub closed : Table → ℕ → ℕ → Table
closed t process number = record t { open_ones = without t.open_ones process number }

-- how many handles the process has
abbrev pub count_of : List Handle → ℕ → ℕ
count_of hs process = length (filter (is_owned process) hs)

-- the process's handle with the least number
abbrev pub least_of : List Handle → ℕ → Option Handle
least_of hs process = find (is_owned process) hs

abbrev pub taken_of : Option Handle → Table → Table
taken_of None t = t
taken_of (Some h) t = closed t h.process h.number

-- the table without the process's least handle
abbrev pub taken : Table → ℕ → Table
taken t process = taken_of (least_of t.open_ones process) t

abbrev pub with_room : Table → Table
with_room t = record t { spare = max t.spare 1 }

abbrev pub is_used : List Handle → ℕ → ℕ → Bool
is_used hs process number = list_any (is_at process number) hs

-- the least free number of 1 to 64, or 65
abbrev pub least_free : List Handle → ℕ → ℕ
least_free hs process = free_from hs process 1 64

-- the order of the list: by process, and then by number
abbrev pub is_before : Handle → Handle → Bool
is_before g h = nat_lt g.process h.process || g.process == h.process && nat_lt g.number h.number

abbrev pub allowed_in : Option Handle → Kind → ℕ → Result Object Code
allowed_in o k right = option_map_or (λ h. allowed h k right) o (Err code.BadHandle)

abbrev pub object_in : Option Handle → Result Object Code
object_in o = option_map_or (λ h. Ok h.object) o (Err code.BadHandle)
