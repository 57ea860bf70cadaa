-- The words of the code and of laws about Sequences, which a reader need not believe.
use Rattle.std.specs.Prelude.{ℕ, ◌-◌, Bool, List, ◌++◌, length, replicate, flat_map}
use Rattle.con_records.specs.declared.record.Key.{Key}
use Rattle.con_vtin.specs.Sequences.{key_units}
use Rattle.con_vtin.specs.declared.sequence.Sequence.{Sequence}

-- the units that keys send, one key after the other
abbrev pub sent : List Key → Bool → List ℕ
sent keys cursor_keys = flat_map (λ k. key_units k cursor_keys) keys

-- the units in an array, with zeros behind them
abbrev pub padded : List ℕ → Sequence
padded units = record { count = length units; units = units ++ replicate (8 - length units) 0 }
