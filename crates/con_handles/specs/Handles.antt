-- The table of handles: a finite map from process and number to an object and rights.
use Rattle.std.specs.Prelude.{ℕ, zero, suc, ◌+◌, ◌==◌, ◌&&◌, ◌||◌, Bool, true, false, not, List, [], ◌∷◌, Option, Result, Ok, Err, filter, nat_lt, nat_le, if◌then◌else◌, bit_and}
use Rattle.std.specs.List.{find, list_any}
use Rattle.std.specs.Option.{option_map_or}
use Rattle.con_units.specs.declared.code.Code.{Code}
use Rattle.con_units.specs.declared.code.Code.TheVariants as code
use Rattle.con_handles.specs.declared.handle.Handle.{Handle}
use Rattle.con_handles.specs.declared.handle.Object.{Object}
use Rattle.con_handles.specs.declared.handle.Object.TheVariants as object
use Rattle.con_handles.specs.declared.handle.Kind.{Kind}
use Rattle.con_handles.specs.declared.handle.Kind.TheVariants as kind

abbrev pub is_at : ℕ → ℕ → Handle → Bool
is_at process number h = h.process == process && h.number == number

-- what the map has at a process and a number
abbrev pub find_handle : List Handle → ℕ → ℕ → Option Handle
find_handle hs process number = find (is_at process number) hs

-- the least number that the process does not use, of the n numbers from this one on, or the one past them
unfoldable pub free_from : List Handle → ℕ → ℕ → ℕ → ℕ
free_from hs process from zero = from
free_from hs process from (suc n) = if list_any (is_at process from) hs then free_from hs process (from + 1) n else from

-- the number that a new handle of the process gets: the least free one of 1 to 64
abbrev pub new_number : List Handle → ℕ → Result ℕ Code
new_number hs process = let n = free_from hs process 1 64 in if nat_le n 64 then Ok n else Err code.Limit

-- the list with one handle more, in its place: the list rises by process, and then by number
abbrev pub entered : Handle → List Handle → List Handle
entered h [] = h ∷ []
entered h (g ∷ gs) = if nat_lt g.process h.process || g.process == h.process && nat_lt g.number h.number then g ∷ entered h gs else h ∷ g ∷ gs

abbrev pub without : List Handle → ℕ → ℕ → List Handle
without hs process number = filter (λ h. not (is_at process number h)) hs

abbrev pub is_kind : Kind → Object → Bool
is_kind kind.Any o = true
is_kind kind.Input object.Input = true
is_kind kind.Output (object.Output b) = true
is_kind _ _ = false

-- a handle of this kind with each bit of this right
abbrev pub allowed : Handle → Kind → ℕ → Result Object Code
allowed h k right = if is_kind k h.object then (if bit_and h.rights right == right then Ok h.object else Err code.Denied) else Err code.BadHandle

-- what a call with this handle acts on
abbrev pub look : List Handle → ℕ → ℕ → Kind → ℕ → Result Object Code
look hs process number k right = option_map_or (λ h. allowed h k right) (find_handle hs process number) (Err code.BadHandle)

-- what a closed handle stood for
abbrev pub object_of : List Handle → ℕ → ℕ → Result Object Code
object_of hs process number = option_map_or (λ h. Ok h.object) (find_handle hs process number) (Err code.BadHandle)

abbrev pub is_owned : ℕ → Handle → Bool
is_owned process h = h.process == process
