-- A call read from its name and what stands after it.
use Rattle.std.specs.Prelude.{ℕ, Bool, true, false, if◌then◌else◌, List, [], ◌∷◌, Option, Some, None, option_map, option_and_then}
use Rattle.con_events.specs.declared.call.Call.{Call}
use Rattle.con_events.specs.Arg.{Arg}
use Rattle.con_events.specs.Words.Arg.{Kind}
use Rattle.con_events.specs.Words.Table.{Row, row_of}
use Rattle.con_events.specs.declared.arguments.Misread.{Misread}
use Rattle.con_events.specs.declared.arguments.Misread.TheVariants.{Form, OutOfMemory}

-- what stands at a place: which argument of each kind it is
abbrev pub Item : Type 0
Item = Kind → Option Arg

-- what stands first, read as a kind
abbrev pub first : List Item → Kind → Option Arg
first [] k = None
first (d ∷ ds) k = d k

abbrev pub others : List Item → List Item
others [] = []
others (d ∷ ds) = ds

-- arguments of these kinds, and what stands after them
abbrev pub args_from : List Kind → List Item → Option (List Arg × List Item)
args_from [] ds = Some ([], ds)
args_from (k ∷ ks) ds = option_and_then (λ a. option_map (λ p. (a ∷ p.0, p.1)) (args_from ks (others ds))) (first ds k)

abbrev pub row_from : {A : Type 0} → Option (Row A) → List Item → Option (A × List Item)
row_from None ds = None
row_from (Some r) ds = option_map (λ p. (r.make p.0, p.1)) (args_from r.kinds ds)

abbrev pub call_from : List ℕ → List Item → Option (Call × List Item)
call_from name ds = row_from (row_of name) ds

-- a refusal for the form
abbrev pub IsForm : Misread → Type 0
IsForm Form = Unit {0}
IsForm OutOfMemory = ⊥

abbrev pub nothing_left : List Item → Bool
nothing_left [] = true
nothing_left (d ∷ ds) = false

-- what has nothing after it
abbrev pub whole : {A : Type 0} → Option (A × List Item) → Option A
whole None = None
whole (Some p) = if nothing_left p.1 then Some p.0 else None
