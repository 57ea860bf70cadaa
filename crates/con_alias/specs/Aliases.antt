-- Aliases by program, in order of insertion.
use Rattle.std.specs.Prelude.{ℕ, ◌+◌, Bool, not, nat_lt, nat_le, ◌==◌, ◌||◌, ◌&&◌, List, [], ◌∷◌, ◌++◌, Option, None, is_some, Result, Ok, Err, find, remove, length, if◌then◌else◌}
use Rattle.std.specs.List.{list_any, position_or_len}
use Rattle.std.specs.Cmp.Lexicographic.{pointwise}
use Rattle.con_units.specs.Stored.{is_control}
use Rattle.std.specs.Str.{bytes_eq as same_units}
use Rattle.con_units.specs.Units.{changed_where}
use Rattle.con_units.specs.declared.code.Code.{Code}
use Rattle.con_units.specs.declared.code.Code.TheVariants as code

-- an alias: its source as it was written first, and its target
pub record Entry : Type 0 where
  pub source : List ℕ
  pub target : List ℕ

-- a program's aliases in order of insertion
pub record AliasList : Type 0 where
  pub program : List ℕ
  pub entries : List Entry

-- a letter of ASCII made small
abbrev pub folded_unit : ℕ → ℕ
folded_unit u = if nat_le 65 u && nat_le u 90 then u + 32 else u

-- sources are compared without regard to ASCII case
abbrev pub same_name : List ℕ → List ℕ → Bool
same_name = pointwise (λ u v. folded_unit u == folded_unit v)

-- the alias of a source
abbrev pub find_entry : List Entry → List ℕ → Option Entry
find_entry entries source = find (λ e. same_name e.source source) entries

-- a present source keeps its place and its first spelling and takes the new target; a new one goes last
abbrev pub put_entry : List Entry → Entry → List Entry
put_entry [] new = new ∷ []
put_entry (e ∷ es) new = if same_name e.source new.source then (record e { target = new.target }) ∷ es else e ∷ put_entry es new

-- 256 are there, and this one is new
abbrev pub is_full : List Entry → List ℕ → Bool
is_full entries source = nat_le 256 (length entries) && not (is_some (find_entry entries source))

-- the aliases with one more, where there is place for it
abbrev pub with_entry : List Entry → Entry → List Entry
with_entry entries new = if is_full entries new.source then entries else put_entry entries new

-- the aliases of a program
abbrev pub entries_in : List AliasList → List ℕ → List Entry
entries_in [] program = []
entries_in (l ∷ ls) program = if same_units l.program program then l.entries else entries_in ls program

-- a program's aliases, changed
abbrev pub changed_in : (List Entry → List Entry) → List AliasList → List ℕ → List AliasList
changed_in f programs program = changed_where (λ l. same_units l.program program) (λ l. record l { entries = f l.entries }) programs

-- a source, or a program, of no unit or of more than 255, which no alias has; further ones are refused by `is_bad`
abbrev pub is_no_source : List ℕ → Bool
is_no_source source = length source == 0 || nat_lt 255 (length source)

-- texts that are refused: a program or source of no unit or more than 255, a target of none or more than 1,024,
-- a space in the source, a control in source or target
abbrev pub is_bad : List ℕ → List ℕ → List ℕ → Bool
is_bad program source target =
    is_no_source program || is_no_source source || length target == 0 || nat_lt 1024 (length target)
    || list_any (λ u. u == 32) source || list_any is_control source || list_any is_control target

-- all aliases after one was added; a program that has no list gets one, which goes last
abbrev pub added : List AliasList → List ℕ → List ℕ → List ℕ → List AliasList
added ls program source target =
    let new : Entry = record { source = source; target = target } in
    if is_bad program source target then ls
    else if list_any (λ l. same_units l.program program) ls then changed_in (λ es. with_entry es new) ls program
    else ls ++ (let l : AliasList = record { program = program; entries = new ∷ [] } in l) ∷ []

-- what the call answers
abbrev pub add_answer : List AliasList → List ℕ → List ℕ → List ℕ → Result (Unit {0}) Code
add_answer ls program source target =
    if is_bad program source target then Err code.BadArgument else if is_full (entries_in ls program) source then Err code.Limit else Ok tt

-- the alias that a source names
abbrev pub alias_at : List AliasList → List ℕ → List ℕ → Option Entry
alias_at ls program source = if is_no_source source then None else find_entry (entries_in ls program) source

abbrev pub removed : List AliasList → List ℕ → List ℕ → List AliasList
removed ls program source =
    if is_no_source source then ls else changed_in (λ es. remove es (position_or_len (λ e. same_name e.source source) es)) ls program

abbrev pub remove_answer : List AliasList → List ℕ → List ℕ → Result (Unit {0}) Code
remove_answer ls program source = if is_some (alias_at ls program source) then Ok tt else Err code.NoAlias
