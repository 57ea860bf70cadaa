-- The words of the code and of laws about Aliases, which a reader need not believe.
use Rattle.std.specs.Prelude.{ℕ, Bool, List, [], ◌∷◌, if◌then◌else◌}
use Rattle.std.specs.List.{list_any}
use Rattle.con_units.specs.Stored.{is_control}
use Rattle.std.specs.Str.{bytes_eq as same_units}
use Rattle.con_alias.specs.Aliases.{Entry, AliasList, same_name, is_full, entries_in}

abbrev pub entry_of : List ℕ → List ℕ → Entry
entry_of source target = record { source = source; target = target }

-- the aliases without one, by one walk
abbrev pub without_entry : List Entry → List ℕ → List Entry
without_entry [] source = []
without_entry (e ∷ es) source = if same_name e.source source then es else e ∷ without_entry es source

-- whether a program has a list
abbrev pub is_known : List AliasList → List ℕ → Bool
is_known programs program = list_any (λ l. same_units l.program program) programs

abbrev pub has_control : List ℕ → Bool
has_control text = list_any is_control text

abbrev pub empty_list : List ℕ → AliasList
empty_list program = record { program = program; entries = [] }

-- whether 256 are there and this one is new
abbrev pub is_over : List AliasList → List ℕ → List ℕ → Bool
is_over ls program source = is_full (entries_in ls program) source
