-- Memory for aliases that are still to come. Nothing of it is a meaning of an alias.
use Rattle.std.specs.Prelude.{ℕ, Bool, nat_lt, List, [], ◌∷◌, Option, Some, None, map, Vec, if◌then◌else◌}
use Rattle.std.specs.declared.alloc.Global.{Global}
use Rattle.con_units.specs.Words.Units.{same_units}
use Rattle.con_alias.specs.Aliases.{Entry, AliasList, is_bad}
use Rattle.con_alias.specs.Words.Aliases.{entry_of, is_known, empty_list}

-- for how many more aliases of a program there is memory
pub record ListPlaces : Type 0 where
  pub program : List ℕ
  pub spare : ℕ

-- the same of each program that has a list, and for how many more lists there is memory
pub record Places : Type 0 where
  pub lists : List ListPlaces
  pub spare : ℕ

-- the aliases of all programs, and the memory for more of them
pub record AliasTable : Type 0 where
  pub programs : List AliasList
  pub places : Places

abbrev pub places_for : List ListPlaces → ℕ → List ℕ → ℕ
places_for [] spare program = spare
places_for (l ∷ ls) spare program = if same_units l.program program then l.spare else places_for ls spare program

-- whether an alias of a program can be added with the memory that is there: it has place in its list, or for a list
abbrev pub has_room : Places → List ℕ → Bool
has_room places program = nat_lt 0 (places_for places.lists places.spare program)

-- room for one alias, and for the list of a program that has none
pub record Prepared : Type 0 where
  pub new : Option Entry
  pub list : Option AliasList

-- what has to be there before an alias is added
abbrev pub room_for : List AliasList → List ℕ → List ℕ → List ℕ → Prepared
room_for ls program source target =
    if is_bad program source target then (let r : Prepared = record { new = None; list = None } in r)
    else (let r : Prepared = record {
      new = Some (entry_of source target);
      list = if is_known ls program then None else Some (empty_list program);
    } in r)

-- one program's aliases in the code, and for how many more of them there is memory
pub record Listed : Type 0 where
  pub entries : List Entry
  pub spare : ℕ

abbrev pub listed : List ℕ → Listed → AliasList
listed program l = record { program = program; entries = l.entries }

-- what the code's map from programs holds
abbrev pub lists_of : List (Vec ℕ Global × Listed) → List AliasList
lists_of = map (λ p. listed p.0.items p.1)

abbrev pub places_of : List (Vec ℕ Global × Listed) → List ListPlaces
places_of = map (λ p. let l : ListPlaces = record { program = p.0.items; spare = p.1.spare } in l)

-- what the code's map from sources to targets holds
abbrev pub entries_of : List (List ℕ × List ℕ) → List Entry
entries_of = map (λ p. entry_of p.0 p.1)
