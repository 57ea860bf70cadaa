-- The words of the code and of laws about Keys, which a reader need not believe.
use Rattle.std.specs.Prelude.{ℕ, List, []}
use Rattle.con_units.specs.Split.{Grammar, Split, split}
use Rattle.con_records.specs.declared.record.Key.{Key}
use Rattle.con_vtin.specs.Keys.{is_front, whole, broken}

abbrev pub grammar : Grammar Key
grammar = record { is_front = is_front; whole = whole; broken = broken; kept = λ _. [] }

-- the keys of bytes, and what of the bytes is unfinished
abbrev pub keys : List ℕ → Split Key
keys bytes = split grammar bytes
