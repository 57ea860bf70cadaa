-- What is left of an array of values, and lists that are built from the front.
use Rattle.std.specs.Prelude.{List, [], ◌∷◌, ◌++◌, Option, Some, None}
use Rattle.serde_json.specs.declared.value.Value.{Value}

abbrev pub front : List Value → Option Value
front [] = None
front (v ∷ vs) = Some v

abbrev pub back : List Value → List Value
back [] = []
back (v ∷ vs) = vs

-- the items so far, and those that a list has where it has any
abbrev pub with_front : {A : Type 0} → List A → Option (List A) → Option (List A)
with_front first None = None
with_front first (Some more) = Some (first ++ more)
