-- Lists that are built from the front.
use Rattle.std.specs.Prelude.{List, ◌++◌, Result, Ok, Err}

-- the items so far, and those of a list
abbrev pub after : {A E : Type 0} → List A → Result (List A) E → Result (List A) E
after first (Ok more) = Ok (first ++ more)
after first (Err e) = Err e
